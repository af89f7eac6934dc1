mod Decrease
mod Faults
mod Firsts
mod Shape
