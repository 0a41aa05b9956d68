mod EdlText
mod Foreign
mod Machines
