mod Lines
mod Spelling
