-- The summary of a run, over its records and its log.
use Rattle.std.specs.Prelude.{ℕ, ◌==◌, Bool, List, ◌++◌, length, filter, sum_by, codes, decimal}
use Rattle.sgx_base.specs.Bytes.{little_endian}
use Rattle.word_port.specs.declared.Step.{Step}
use Rattle.call_report.specs.declared.CallRecord.{CallRecord}
use Rattle.call_report.specs.Report.{written_bytes}

-- whether a call succeeded
abbrev pub is_success : CallRecord → Bool
is_success r = r.status.0 == 0

-- the sum of the returns of the calls that succeeded, each of 8 bytes
abbrev pub returns_sum : List CallRecord → List Step → ℕ
returns_sum records log = sum_by (λ r. little_endian (written_bytes log r.turn 8)) (filter is_success records)

-- the line of these numbers
abbrev pub line_of : (calls ok sum steps : ℕ) → List ℕ
line_of calls ok sum steps =
    codes "calls " ++ decimal calls ++ codes " ok " ++ decimal ok ++ codes " sum " ++ decimal sum ++ codes " steps " ++ decimal steps ++ codes "\n"

-- how many calls there were, how many succeeded, the sum of their returns, and how many steps the log has
unfoldable pub summary : List CallRecord → List Step → List ℕ
summary records log = line_of (length records) (length (filter is_success records)) (returns_sum records log) (length log)
