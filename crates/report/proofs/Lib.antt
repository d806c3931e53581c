mod Own
mod Summed
