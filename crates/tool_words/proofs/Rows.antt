-- What a parse found, as rows.
use Rattle.std.proofs.Common.{◌≡◌, ◌∙◌, ap, sym, refl, List, [], ◌∷◌, Option, Some, None, option_map, find}
use Rattle.std.specs.Prelude.{option_and_then, slice_get}
use Rattle.std.specs.Borrow.{Bor}
use Rattle.std.specs.Str.{bytes_eq}
use Rattle.clap.specs.Facts.{Entry}
use Rattle.clap.specs.Matches.{matched_of, first_value, raw_values}
use Rattle.clap.specs.Walk.{Row, Text, row_of, rows_of, texts, first_of, all_of}
use Rattle.clap.specs.declared.parser.matches.Found.{Found}
use Rattle.clap.proofs.WalkLemmas.{find_row}

-- where a row's value came from
pub source_row : (f : Found) (id : Text)
    → option_and_then (λ a. a.source) (matched_of f id)
    ≡ option_and_then (λ r. r.source) (find (λ r. bytes_eq r.id id) (rows_of f))
source_row f id = go (find (λ e. bytes_eq e.0.now id) f.entries.items)
    ∙ ap (option_and_then (λ (r : Row). r.source)) (sym (find_row f.entries.items id))
  where
    go : (entry : Option Entry)
        → option_and_then (λ a. a.source) (option_map (λ e. e.1) entry)
        ≡ option_and_then (λ r. r.source) (option_map row_of entry)
    go None = refl
    go (Some e) = refl

first_text : (values : List (Bor Text)) → option_map (λ s. s.now) (slice_get values 0) ≡ slice_get (texts values) 0
first_text [] = refl
first_text (v ∷ vs) = refl

-- its first value
pub first_row : (f : Found) (id : Text) → first_value f id ≡ first_of id (rows_of f)
first_row f id = go (find (λ e. bytes_eq e.0.now id) f.entries.items)
    ∙ ap (option_and_then (λ (r : Row). slice_get r.values 0)) (sym (find_row f.entries.items id))
  where
    go : (entry : Option Entry)
        → option_and_then (λ a. option_map (λ s. s.now) (slice_get a.vals.items 0)) (option_map (λ e. e.1) entry)
        ≡ option_and_then (λ r. slice_get r.values 0) (option_map row_of entry)
    go None = refl
    go (Some e) = first_text e.1.vals.items

-- all its values
pub all_row : (f : Found) (id : Text) → option_map raw_values (matched_of f id) ≡ all_of id (rows_of f)
all_row f id = go (find (λ e. bytes_eq e.0.now id) f.entries.items)
    ∙ ap (option_map (λ (r : Row). r.values)) (sym (find_row f.entries.items id))
  where
    go : (entry : Option Entry)
        → option_map raw_values (option_map (λ e. e.1) entry) ≡ option_map (λ r. r.values) (option_map row_of entry)
    go None = refl
    go (Some e) = refl
