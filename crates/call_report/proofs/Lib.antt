mod EcallLaws
mod OcallLaws
mod TextLaws
