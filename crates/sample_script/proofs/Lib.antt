mod Lengths
mod OneMore
