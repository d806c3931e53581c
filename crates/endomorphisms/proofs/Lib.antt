mod Additions
mod Alike
mod Rules
mod Tied
mod Tables
mod Soluble
mod Solves
