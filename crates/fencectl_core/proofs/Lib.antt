mod Adding
mod Alone
mod Drawn
mod Fronts
mod Instead
mod Matched
