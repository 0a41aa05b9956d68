-- The first reading, line by line.
use Rattle.std.proofs.Common.{ℕ, ◌≡◌, Bool, true, false, List, [], ◌∷◌, ◌++◌, Option, Some, None, Result, Ok, Err, refl, sym, ◌∙◌, ap, append_assoc}
use Rattle.std.proofs.Common.{subst}
use Rattle.std.proofs.lemmas.List.{append-nil}
use Rattle.std.proofs.lemmas.List.Elements.{filter_map-append}
use Rattle.std.proofs.lemmas.Slice.Eq.{bytes_eq-Decides}
use Rattle.std.specs.Prelude.{◌||◌, if◌then◌else◌, filter_map, find, slice_get, option_map, option_and_then, codes}
use Rattle.std.specs.Str.{bytes_eq}
use Rattle.edl_layout.specs.declared.ForeignType.{ForeignType}
use Rattle.edl_layout.specs.declared.ForeignTypes.{ForeignTypes}
use Rattle.call_script.specs.declared.ScriptFault.{ScriptFault}
use Rattle.call_script.specs.declared.ScriptFault.TheVariants.{Rule, Memory}
use Rattle.call_script.specs.Spelling.{Word, NumberedLine, numbered_lines, is_name, is_number}
use Rattle.call_script.specs.Parser.{Parser, ◌<*>◌, pure, name, number, ended, or_else}
use Rattle.call_script.specs.Line as line
use Rattle.call_script.specs.Line.{Line, Foreign}
use Rattle.call_script.specs.Block.{PlacedLine, line_in, Outside}
use Rattle.call_script.specs.Standing.{Standing, standings_from, lines_of, is_named_in, foreign_name}
use Rattle.call_script.specs.Faults.{Fault, Row, row, fault_at, fault_of, rows, has_number_out_of_range, is_left_open}
use Rattle.call_script.specs.Reading.{Reads, unless_fault}
use Rattle.script_reader.specs.Foreign.{type_named, placed_foreign, foreign_type, types_in, only, no_interface, foreign_types, line_outside, is_declared, declared, types_after, on_to, types_behind}

-- the first of a list is that of its head, or else of the rest
abbrev first_of : {A B : Type 0} → (A → Option B) → List A → Option B
first_of f xs = slice_get (filter_map f xs) 0

first_of-cons : {A B : Type 0} (f : A → Option B) (x : A) (xs : List A) → first_of f (x ∷ xs) ≡ or_else (f x) (first_of f xs)
first_of-cons f x xs = go (f x) refl
  where
    go : (o : Option _) → f x ≡ o → first_of f (x ∷ xs) ≡ or_else (f x) (first_of f xs)
    go None e = rw e refl
    go (Some b) e = rw e refl

-- ---- what a line that begins with `foreign` is

-- `NAME SIZE ALIGN`
abbrev foreign : Parser Line
foreign = pure Foreign <*> name <*> number <*> number

abbrev foreign_line : List Word → Option Line
foreign_line ws = ended (foreign ws)

-- none, or a line of that form
pub data IsForeign : Option Line → Type 0 where
  other : IsForeign None
  its_line : (name size alignment : Word) → IsForeign (Some (Foreign name size alignment))

read-foreign : (ws : List Word) → IsForeign (foreign_line ws)
read-foreign [] = other
read-foreign (w ∷ ws) = at_name (is_name w) refl
  where
    at_end : (x y : Word) (zs : List Word) → IsForeign (ended (Some (Foreign w x y, zs)))
    at_end x y [] = its_line w x y
    at_end x y (z ∷ zs) = other

    at_alignment : (x y : Word) (zs : List Word) (t : Bool) → is_number y ≡ t → is_name w ≡ true → is_number x ≡ true → IsForeign (ended (foreign (w ∷ x ∷ y ∷ zs)))
    at_alignment x y zs true e f g = rw (f, g, e) (at_end x y zs)
    at_alignment x y zs false e f g = rw (f, g, e) other

    at_size : (x : Word) (ys : List Word) (t : Bool) → is_number x ≡ t → is_name w ≡ true → IsForeign (ended (foreign (w ∷ x ∷ ys)))
    at_size x ys false e f = rw (f, e) other
    at_size x [] true e f = rw (f, e) other
    at_size x (y ∷ zs) true e f = at_alignment x y zs (is_number y) refl f e

    at_sizes : (ys : List Word) → is_name w ≡ true → IsForeign (ended (foreign (w ∷ ys)))
    at_sizes [] f = rw f other
    at_sizes (x ∷ ys) f = at_size x ys (is_number x) refl f

    at_name : (t : Bool) → is_name w ≡ t → IsForeign (ended (foreign (w ∷ ws)))
    at_name true e = at_sizes ws e
    at_name false e = rw e other

or-none : {A : Type 0} (o : Option A) → or_else o None ≡ o
or-none None = refl
or-none (Some a) = refl

-- no other form begins so
line-foreign : (ws : List Word) → line_in Outside (codes "foreign" ∷ ws) ≡ foreign_line ws
line-foreign ws = or-none (ended (foreign ws))

outside-foreign : (ws : List Word) → IsForeign (line_outside (codes "foreign" ∷ ws))
unfolding line_outside
outside-foreign ws = subst IsForeign (sym (line-foreign ws)) (read-foreign ws)

-- ---- the fault of such a line

abbrev fault_by_two : ℕ → Bool → Bool → Option Fault
fault_by_two n out twice =
    if out then Some (record { line = n; code = 2 }) else (if twice then Some (record { line = n; code = 11 }) else None)

abbrev two_rows : Bool → Bool → List Row
two_rows out twice =
    row 1 false ∷ row 2 out ∷ row 3 false ∷ row 4 false ∷ row 5 false ∷ row 6 false ∷ row 7 false ∷ row 8 false ∷ row 9 false
    ∷ row 10 false ∷ row 11 twice ∷ row 12 false ∷ row 13 false ∷ row 14 false ∷ row 15 false ∷ row 16 false ∷ row 18 false
    ∷ row 19 false ∷ row 20 false ∷ []

two-rows : (n : ℕ) (out twice : Bool) → option_map (fault_of n) (find (λ r. r.broken) (two_rows out twice)) ≡ fault_by_two n out twice
two-rows n true twice = refl
two-rows n false true = refl
two-rows n false false = refl

-- a number out of its range, or else a name that is given twice
fault-foreign : (left : Bool) (s : Standing) (name size alignment : Word)
    → option_map (fault_of s.here.number) (find (λ r. r.broken) (rows no_interface false left s (Foreign name size alignment)))
    ≡ fault_by_two s.here.number (has_number_out_of_range (Foreign name size alignment)) (is_named_in foreign_name (lines_of s.before) name)
fault-foreign left s name size alignment =
    two-rows s.here.number (has_number_out_of_range (Foreign name size alignment)) (is_named_in foreign_name (lines_of s.before) name)

-- the names that are given are those of the types
names-given : (ls : List Line) (name : Word) → is_declared (filter_map foreign_type ls) name ≡ is_named_in foreign_name ls name
names-given [] name = refl
names-given (Foreign n size alignment ∷ ls) name = ap (λ b. bytes_eq name n || b) (names-given ls name)
names-given (line.Set s w ∷ ls) name = names-given ls name
names-given (line.Bytes address hex ∷ ls) name = names-given ls name
names-given (line.Cell cell value ∷ ls) name = names-given ls name
names-given (line.Race access address hex ∷ ls) name = names-given ls name
names-given (line.Body n ∷ ls) name = names-given ls name
names-given (line.Handler n ∷ ls) name = names-given ls name
names-given (line.Thread ∷ ls) name = names-given ls name
names-given (line.Racer ∷ ls) name = names-given ls name
names-given (line.Call n args ∷ ls) name = names-given ls name
names-given (line.Raw ordinal address ∷ ls) name = names-given ls name
names-given (line.Poke place hex ∷ ls) name = names-given ls name
names-given (line.Peek place count ∷ ls) name = names-given ls name
names-given (line.Repeat times ∷ ls) name = names-given ls name
names-given (line.Return value ∷ ls) name = names-given ls name
names-given (line.Status status ∷ ls) name = names-given ls name
names-given (line.Do phrase ∷ ls) name = names-given ls name
names-given (line.Temp n size ∷ ls) name = names-given ls name
names-given (line.Ocall r q n args ∷ ls) name = names-given ls name
names-given (line.Close ∷ ls) name = names-given ls name

-- ---- line by line

abbrev answer : List PlacedLine → List PlacedLine → Result ForeignTypes Fault
answer before ls =
    unless_fault (first_of (fault_at no_interface false) (standings_from before ls)) (only (types_in (before ++ ls)))

abbrev or_answer : Option Fault → Result ForeignTypes Fault → Result ForeignTypes Fault
or_answer None rest = rest
or_answer (Some fault) rest = Err fault

abbrev with_only : Result (List ForeignType) Fault → Result ForeignTypes Fault
with_only r = on_to (λ types. Ok (only types)) r

abbrev standing : List PlacedLine → PlacedLine → List PlacedLine → Standing
standing before here behind = record { before = before; here = here; behind = behind }

-- the fault of the next line comes first
answer-cons : (before ls : List PlacedLine) (l : PlacedLine)
    → answer before (l ∷ ls) ≡ or_answer (fault_at no_interface false (standing before l ls)) (answer (before ++ l ∷ []) ls)
answer-cons before ls l =
    ap (λ o. unless_fault o (only (types_in (before ++ l ∷ ls))))
    (first_of-cons (fault_at no_interface false) (standing before l ls) (standings_from (before ++ l ∷ []) ls))
    ∙ go (fault_at no_interface false (standing before l ls))
  where
    rest : before ++ l ∷ ls ≡ (before ++ l ∷ []) ++ ls
    rest = sym (append_assoc before (l ∷ []) ls)

    go : (o : Option Fault)
        → unless_fault (or_else o (first_of (fault_at no_interface false) (standings_from (before ++ l ∷ []) ls)))
        (only (types_in (before ++ l ∷ ls)))
        ≡ or_answer o (answer (before ++ l ∷ []) ls)
    go None =
        ap (λ xs. unless_fault (first_of (fault_at no_interface false) (standings_from (before ++ l ∷ []) ls)) (only (types_in xs)))
        rest
    go (Some fault) = refl

abbrev at_line : ℕ → Option Line → PlacedLine
at_line n o = record { number = n; blocks = []; line = o }

types-append : (before : List PlacedLine) (l : PlacedLine) (t : ForeignType)
    → option_and_then foreign_type l.line ≡ Some t → types_in (before ++ l ∷ []) ≡ types_in before ++ t ∷ []
types-append before l t e =
    ap (filter_map foreign_type) (filter_map-append (λ (k : PlacedLine). k.line) before (l ∷ []))
    ∙ filter_map-append foreign_type (lines_of before) (lines_of (l ∷ []))
    ∙ ap (λ ts. types_in before ++ ts) (one l.line e)
  where
    one : (o : Option Line) → option_and_then foreign_type o ≡ Some t
        → filter_map foreign_type (filter_map (λ (x : Option Line). x) (o ∷ [])) ≡ t ∷ []
    one None e = absurd cc
    one (Some its) e = rw e refl

module _ (ls : List NumberedLine) (rest : (before : List PlacedLine) → answer before (placed_foreign ls) ≡ with_only (types_behind (types_in before) ls)) where
  behind-line : (before : List PlacedLine) (n : ℕ) (o : Option Line) → IsForeign o
      → answer before (at_line n o ∷ placed_foreign ls)
      ≡ with_only (on_to (λ ts. types_behind ts ls) (declared (types_in before) n o))
  behind-line before n _ other = answer-cons before (placed_foreign ls) (at_line n None)
  behind-line before n _ (its_line name size alignment) =
      answer-cons before (placed_foreign ls) (at_line n (Some (Foreign name size alignment)))
      ∙ ap (λ o. or_answer o (answer (before ++ at_line n (Some (Foreign name size alignment)) ∷ []) (placed_foreign ls)))
      fault
      ∙ go (has_number_out_of_range (Foreign name size alignment)) (is_declared (types_in before) name)
    where
      fault : fault_at no_interface false (standing before (at_line n (Some (Foreign name size alignment))) (placed_foreign ls))
          ≡ fault_by_two n (has_number_out_of_range (Foreign name size alignment)) (is_declared (types_in before) name)
      fault =
          fault-foreign (is_left_open (standing before (at_line n (Some (Foreign name size alignment))) (placed_foreign ls)))
          (standing before (at_line n (Some (Foreign name size alignment))) (placed_foreign ls)) name size alignment
          ∙ ap (λ b. fault_by_two n (has_number_out_of_range (Foreign name size alignment)) b)
          (sym (names-given (lines_of before) name))

      go : (out twice : Bool)
          → or_answer (fault_by_two n out twice)
          (answer (before ++ at_line n (Some (Foreign name size alignment)) ∷ []) (placed_foreign ls))
          ≡ with_only (on_to (λ ts. types_behind ts ls) (
          if out then Err (record { line = n; code = 2 })
          else (
          if twice then Err (record { line = n; code = 11 })
          else Ok (types_in before ++ type_named name size alignment ∷ [])
          )))
      go true twice = refl
      go false true = refl
      go false false =
          rest (before ++ at_line n (Some (Foreign name size alignment)) ∷ [])
          ∙ ap (λ ts. with_only (types_behind ts ls))
          (types-append before (at_line n (Some (Foreign name size alignment))) (type_named name size alignment) refl)

  behind-foreign : (before : List PlacedLine) (n : ℕ) (ws : List Word)
      → answer before (placed_foreign (record { number = n; words = codes "foreign" ∷ ws } ∷ ls))
      ≡ with_only (on_to (λ ts. types_behind ts ls) (declared (types_in before) n (line_outside (codes "foreign" ∷ ws))))
  unfolding line_outside
  behind-foreign before n ws = behind-line before n (line_outside (codes "foreign" ∷ ws)) (outside-foreign ws)

  behind-words : (before : List PlacedLine) (n : ℕ) (ws : List Word)
      → answer before (placed_foreign (record { number = n; words = ws } ∷ ls))
      ≡ with_only (on_to (λ ts. types_behind ts ls) (types_after (types_in before) n ws))
  behind-words before n [] = rest before
  behind-words before n (w ∷ ws) = go (bytes_eq w (codes "foreign")) refl
    where
      passed : bytes_eq w (codes "foreign") ≡ false → placed_foreign (record { number = n; words = w ∷ ws } ∷ ls) ≡ placed_foreign ls
      passed e = rw e refl

      go : (t : Bool) → bytes_eq w (codes "foreign") ≡ t
          → answer before (placed_foreign (record { number = n; words = w ∷ ws } ∷ ls))
          ≡ with_only (on_to (λ ts. types_behind ts ls) (
          if t then declared (types_in before) n (line_outside (w ∷ ws)) else Ok (types_in before)))
      go false e = ap (answer before) (passed e) ∙ rest before
      go true e =
          subst
          (λ v. answer before (placed_foreign (record { number = n; words = v ∷ ws } ∷ ls))
          ≡ with_only (on_to (λ ts. types_behind ts ls) (declared (types_in before) n (line_outside (v ∷ ws)))))
          (sym ((bytes_eq-Decides w (codes "foreign")).0 e)) (behind-foreign before n ws)

behind-is : (before : List PlacedLine) (ls : List NumberedLine)
    → answer before (placed_foreign ls) ≡ with_only (types_behind (types_in before) ls)
unfolding types_behind
behind-is before [] = ap (λ ls. Ok (only (types_in ls))) (append-nil before)
behind-is before (l ∷ ls) = behind-words ls (λ b. behind-is b ls) before l.number l.words

-- the first reading goes from line to line
foreign-types-is : (bytes : List ℕ) → foreign_types bytes ≡ with_only (types_behind [] (numbered_lines bytes))
unfolding foreign_types
foreign-types-is bytes = behind-is [] (numbered_lines bytes)

-- ---- a turn of the reader

-- what a line adds
module _ (types : List ForeignType) (n : ℕ) (o : Option Line) where
  pub no_line : o ≡ None → declared types n o ≡ Err (record { line = n; code = 1 })
  no_line e = rw e refl

  module _ (name size alignment : Word) (its : o ≡ Some (Foreign name size alignment)) where
    pub out_of_range : has_number_out_of_range (Foreign name size alignment) ≡ true
        → declared types n o ≡ Err (record { line = n; code = 2 })
    out_of_range e = rw (its, e) refl

    module _ (in_range : has_number_out_of_range (Foreign name size alignment) ≡ false) where
      pub twice : is_declared types name ≡ true → declared types n o ≡ Err (record { line = n; code = 11 })
      twice e = rw (its, in_range, e) refl

      pub one_more : is_declared types name ≡ false → (t : ForeignType) → t ≡ type_named name size alignment
          → (ts : List ForeignType) → ts ≡ types ++ t ∷ [] → declared types n o ≡ Ok ts
      one_more e t p ts q =
          let more : declared types n o ≡ Ok (types ++ type_named name size alignment ∷ []) = rw (its, in_range, e) refl in
          more ∙ sym (ap Ok (q ∙ ap (λ x. types ++ x ∷ []) p))

begun : (types : List ForeignType) (n : ℕ) (ws : List Word) (w : Word) (rest : List Word) → ws ≡ w ∷ rest
    → bytes_eq w (codes "foreign") ≡ true → types_after types n ws ≡ declared types n (line_outside ws)
begun types n ws w rest first e =
    ap (types_after types n) first ∙ rw e refl ∙ ap (λ v. declared types n (line_outside v)) (sym first)

-- the words of a line
module _ (types : List ForeignType) (n : ℕ) (ws : List Word) where
  pub blank : ws ≡ [] → types_after types n ws ≡ Ok types
  blank e = rw e refl

  module _ (w : Word) (rest : List Word) (first : ws ≡ w ∷ rest) where
    pub other_line : bytes_eq w (codes "foreign") ≡ false → types_after types n ws ≡ Ok types
    other_line e = rw (first, e) refl

    pub foreign_words : bytes_eq w (codes "foreign") ≡ true → (r : Result (List ForeignType) ScriptFault)
        → Reads (declared types n (line_outside ws)) r → Reads (types_after types n ws) r
    foreign_words e r h =
        let same : declared types n (line_outside ws) ≡ types_after types n ws = sym (begun types n ws w rest first e) in
        subst (λ stated. Reads stated r) same h

-- the lines that are left
module _ (bytes : List ℕ) (types : List ForeignType) (lines : List NumberedLine)
    (same : types_behind types lines ≡ types_behind [] (numbered_lines bytes)) where
  pub end : lines ≡ [] → foreign_types bytes ≡ Ok (only types)
  unfolding types_behind
  end e = foreign-types-is bytes ∙ ap with_only (sym same) ∙ ap (λ ls. with_only (types_behind types ls)) e

  module _ (n : ℕ) (ws : List Word) (ls : List NumberedLine) (first : lines ≡ record { number = n; words = ws } ∷ ls) where
    pub turn : (ts : List ForeignType) → types_after types n ws ≡ Ok ts
        → types_behind ts ls ≡ types_behind [] (numbered_lines bytes)
    unfolding types_behind
    turn ts e =
        sym (ap (on_to (λ ts. types_behind ts ls)) e) ∙ sym (ap (types_behind types) first) ∙ same

    pub stop : (fault : ScriptFault) → Reads (types_after types n ws) (Err fault) → Reads (foreign_types bytes) (Err fault)
    unfolding types_behind
    stop Memory h = tt
    stop (Rule k code) h =
        foreign-types-is bytes ∙ ap with_only (sym same) ∙ ap (λ ls. with_only (types_behind types ls)) first
        ∙ ap (λ r. with_only (on_to (λ ts. types_behind ts ls) r)) h
