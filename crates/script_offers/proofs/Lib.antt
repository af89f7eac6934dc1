mod Comings
mod Gathered
