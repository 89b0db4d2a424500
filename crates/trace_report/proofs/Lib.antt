mod Finding
mod Reported
mod Writing
