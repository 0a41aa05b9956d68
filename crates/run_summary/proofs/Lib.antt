mod SumLaws
mod WholeRuns
