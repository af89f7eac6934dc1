mod Calls
mod Derivations
mod Equals
mod Fetched
mod Fetches
mod Final
mod SecondFiles
mod Sims
