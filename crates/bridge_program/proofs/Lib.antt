mod Depths
mod ListLaws
