mod Few
mod Queued
mod Stepped
