mod Choices
mod Given
mod Named
mod Rows
mod Usage
mod Values
mod Wanted
