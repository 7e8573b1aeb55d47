mod Headers
mod Lines
mod Faults
mod Shows
mod Numbers
