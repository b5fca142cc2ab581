mod Imports
mod Sums
