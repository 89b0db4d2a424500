mod Answered
mod Looking
mod OneLine
mod Over
mod Room
mod Signed
mod Stepped
