mod Bytes
mod Fronts
mod Grammar
mod Operations
mod Readings
mod Spelled
mod Terms
mod Within
