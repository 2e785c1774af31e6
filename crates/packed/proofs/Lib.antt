mod Writes
mod Chains
mod Entering
mod Leaving
