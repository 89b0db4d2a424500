mod Adding
mod Scripting
mod Naming
mod Lanes
