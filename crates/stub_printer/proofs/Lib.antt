mod AllowRows
mod TableLaws
