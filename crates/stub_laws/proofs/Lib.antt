mod WordLaws
mod TemplateLaws
mod ExpressionLaws
mod InstructionLaws
mod ListLaws
mod BridgeLaws
