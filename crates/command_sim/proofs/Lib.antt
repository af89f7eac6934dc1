mod Pieces
mod Simulating
mod Steps
