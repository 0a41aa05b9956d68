-- The settings of a script: one row for each.
use Rattle.std.specs.Prelude.{ℕ, ◌&&◌, ◌%◌, ◌==◌, Bool, false, List, [], ◌∷◌, Option, Some, None, codes}
use Prim.Native.String.{String}
use Rattle.sgx_base.specs.Numbers.{spelled_number}
use Rattle.call_script.specs.Spelling.{Word, is_from_to}

-- its word, the least and the most that it may be, the number that it is a multiple of, and what it is without a line
pub record Setting : Type 0 where
  pub word : Word
  pub least : ℕ
  pub most : ℕ
  pub unit : ℕ
  pub default : ℕ

abbrev pub setting : String → ℕ → ℕ → ℕ → ℕ → Setting
setting text least most unit default =
    record { word = codes text; least = least; most = most; unit = unit; default = default }

abbrev pub host : Setting
host = setting "host" 4096 65536 16 4096

abbrev pub stack : Setting
stack = setting "stack" 256 32768 16 1024

abbrev pub arena : Setting
arena = setting "arena" 4096 65536 16 4096

abbrev pub cells : Setting
cells = setting "cells" 0 64 1 16

abbrev pub retries : Setting
retries = setting "retries" 0 1000 1 100

abbrev pub tworkers : Setting
tworkers = setting "tworkers" 0 4 1 0

abbrev pub uworkers : Setting
uworkers = setting "uworkers" 0 4 1 0

abbrev pub slots : Setting
slots = setting "slots" 1 8 1 4

abbrev pub all_settings : List Setting
all_settings = host ∷ stack ∷ arena ∷ cells ∷ retries ∷ tworkers ∷ uworkers ∷ slots ∷ []

abbrev pub is_setting_number : Setting → Option ℕ → Bool
is_setting_number s None = false
is_setting_number s (Some n) = is_from_to s.least s.most (Some n) && n % s.unit == 0

-- a number that the setting may be
abbrev pub is_value_of : Setting → Word → Bool
is_value_of s w = is_setting_number s (spelled_number w)
