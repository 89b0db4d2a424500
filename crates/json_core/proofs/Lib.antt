mod Counting
mod Runs
