-- Tables of functions and of names, after one entry more.
use Rattle.std.proofs.Common.{arith, ℕ, ◌≡◌, ◌+◌, ◌<◌, min, Bool, true, false, ◌&&◌, ◌||◌, ◌==◌, nat_lt, cond, if◌then◌else◌, List, [], ◌∷◌, ◌++◌, take, length, get_or, Option, Some, None, refl, sym, ◌∙◌, ap, subst}
use Rattle.std.specs.Prelude.{fold}
use Rattle.std.specs.HashMap.{HashMap}
use Rattle.std.specs.HashSet.{HashSet}
use Rattle.std.specs.List.{list_any}
use Rattle.std.specs.Map.{lookup}
use Rattle.std.specs.Str.{bytes_eq}
use Rattle.std.proofs.lemmas.Bool.Decides.{nat_tests}
use Rattle.std.proofs.lemmas.List.{take_more}
use Rattle.std.proofs.lemmas.List.Folds.{list_any-append}
use Rattle.std.proofs.lemmas.List.Sums.{fold-append}
use Rattle.std.proofs.lemmas.Slice.Eq.{bytes_eq-Decides}
use Rattle.edl_grammar.specs.declared.Pick.{Pick}
use Rattle.edl_imports.specs.declared.conflicts.Known.{Known}
use Rattle.edl_imports.specs.Conflicts.{is_second}
use Rattle.edl_imports.specs.Offers.{is_same, has_pick, with_pick, joined}
use Rattle.edl_imports.specs.Tables.{TellsPicks, earlier_file, with_file, first_file_of, is_before_file, TellsFiles}
use denote.Ref.{Bor}

or_false : (b : Bool) → (b || false) ≡ b
or_false true = refl
or_false false = refl

-- ---- functions

has_more : (ps : List Pick) (p q : Pick) → cond (is_same p q) true (has_pick ps q) ≡ has_pick (ps ++ p ∷ []) q
has_more ps p q = by (is_same p q) (has_pick ps q) ∙ sym (list_any-append (λ p. is_same p q) ps (p ∷ []))
  where
    by : (b h : Bool) → cond b true h ≡ (h || (b || false))
    by true true = refl
    by true false = refl
    by false true = refl
    by false false = refl

module _ {S : Type 0} (old new : HashSet (ℕ × ℕ) S) (p : Pick)
    (put : (k : ℕ × ℕ) → list_any (λ x. k.0 == x.0 && k.1 == x.1) new.keys ≡ cond (p.file == k.0 && p.index == k.1) true (list_any (λ x. k.0 == x.0 && k.1 == x.1) old.keys)) where
  -- a function more
  pub tells_more : (ps : List Pick) → TellsPicks old ps → TellsPicks new (ps ++ p ∷ [])
  tells_more ps h = record { here = λ q. put (q.file, q.index) ∙ ap (cond (is_same p q) true) (h.here q) ∙ has_more ps p q }

-- a turn of a loop that puts functions in
pub table_turn : {S : Type 0} (old new : HashSet (ℕ × ℕ) S) (ps : List Pick) (i : ℕ) (d : Pick) → i < length ps
    → ((k : ℕ × ℕ) → list_any (λ x. k.0 == x.0 && k.1 == x.1) new.keys
    ≡ cond ((get_or ps i d).file == k.0 && (get_or ps i d).index == k.1) true (list_any (λ x. k.0 == x.0 && k.1 == x.1) old.keys))
    → TellsPicks old (take i ps) → TellsPicks new (take (i + 1) ps)
table_turn old new ps i d lt put h = subst (TellsPicks new) (sym (take_more ps i d lt)) (tells_more old new (get_or ps i d) put (take i ps) h)

-- the same of a list that they are put behind
pub join_turn : (old new ps more : List Pick) (i : ℕ) (d : Pick) → i < length more → new ≡ with_pick old (get_or more i d) → old ≡ joined ps (take i more)
    → new ≡ joined ps (take (i + 1) more)
join_turn old new ps more i d lt put before =
    put ∙ ap (λ (qs : List Pick). with_pick qs (get_or more i d)) before
    ∙ sym (ap (joined ps) (take_more more i d lt) ∙ fold-append with_pick ps (take i more) (get_or more i d ∷ []))

-- ---- names

module _ {S : Type 0} where
  told_more : (old new : HashMap (Bor (List ℕ)) ℕ S) (name : Bor (List ℕ)) (first : Option ℕ) (all : List Known) (k : Known) → k.name ≡ name.now
      → first ≡ lookup (λ x. bytes_eq name.now x.now) old.entries
      → ((q : Bor (List ℕ)) → lookup (λ x. bytes_eq q.now x.now) new.entries ≡ cond (bytes_eq name.now q.now) (Some (earlier_file first k.at.file)) (lookup (λ x. bytes_eq q.now x.now) old.entries))
      → TellsFiles old all → (q : Bor (List ℕ)) → lookup (λ x. bytes_eq q.now x.now) new.entries ≡ with_file q.now (first_file_of q.now all) k
  told_more old new name first all k same before put h q =
      put q ∙ ap (λ (r : Option ℕ). cond (bytes_eq name.now q.now) (Some (earlier_file first k.at.file)) r) (h.here q) ∙ by (bytes_eq name.now q.now) refl
      ∙ ap (λ (n : List ℕ). if bytes_eq n q.now then Some (earlier_file (first_file_of q.now all) k.at.file) else first_file_of q.now all) (sym same)
    where
      by : (b : Bool) → bytes_eq name.now q.now ≡ b → cond b (Some (earlier_file first k.at.file)) (first_file_of q.now all) ≡ (if b then Some (earlier_file (first_file_of q.now all) k.at.file) else first_file_of q.now all)
      by false t = refl
      by true t =
          let names : name.now ≡ q.now = (bytes_eq-Decides name.now q.now).0 t in
          ap (λ (r : Option ℕ). Some (earlier_file r k.at.file)) (before ∙ h.here name ∙ ap (λ (n : List ℕ). first_file_of n all) names)

  pub files_turn : (old new : HashMap (Bor (List ℕ)) ℕ S) (name : Bor (List ℕ)) (first : Option ℕ) (file : ℕ) (all : List Known) (i : ℕ) (k : Known) → i < length all → k ≡ get_or all i k → name.now ≡ k.name
      → first ≡ lookup (λ x. bytes_eq name.now x.now) old.entries → file ≡ earlier_file first k.at.file
      → ((q : Bor (List ℕ)) → lookup (λ x. bytes_eq q.now x.now) new.entries ≡ cond (bytes_eq name.now q.now) (Some file) (lookup (λ x. bytes_eq q.now x.now) old.entries))
      → TellsFiles old (take i all) → TellsFiles new (take (i + 1) all)
  files_turn old new name first file all i k lt is same before earlier put h = record {
    here = λ q.
        told_more old new name first (take i all) k (sym same) before
        (λ x. put x ∙ ap (λ (n : ℕ). cond (bytes_eq name.now x.now) (Some n) (lookup (λ y. bytes_eq x.now y.now) old.entries)) earlier) h q
        ∙ sym (ap (first_file_of q.now) (take_more all i k lt) ∙ fold-append (with_file q.now) None (take i all) (get_or all i k ∷ [])
        ∙ ap (with_file q.now (first_file_of q.now (take i all))) (sym is));
  }

min_before : (m k n : ℕ) → nat_lt (min m k) n ≡ (nat_lt m n || nat_lt k n)
min_before m k n = grind (arith, nat_tests)

or_assoc : (a b c : Bool) → ((a || b) || c) ≡ (a || (b || c))
or_assoc true b c = refl
or_assoc false b c = refl

before_from : (name : List ℕ) (n : ℕ) (first : Option ℕ) (all : List Known)
    → is_before_file (fold (with_file name) first all) n ≡ (is_before_file first n || list_any (λ h. nat_lt h.at.file n && bytes_eq h.name name) all)
before_from name n first [] = sym (or_false (is_before_file first n))
before_from name n first (k ∷ all) = before_from name n (with_file name first k) all ∙ step first (bytes_eq k.name name) (nat_lt k.at.file n) refl
  where
    rest : Bool
    rest = list_any (λ h. nat_lt h.at.file n && bytes_eq h.name name) all

    step : (first : Option ℕ) (b less : Bool) → nat_lt k.at.file n ≡ less → (is_before_file (if b then Some (earlier_file first k.at.file) else first) n || rest) ≡ (is_before_file first n || ((less && b) || rest))
    step None true true l = ap (λ (t : Bool). t || rest) l
    step None true false l = ap (λ (t : Bool). t || rest) l
    step (Some m) true true l = ap (λ (t : Bool). t || rest) (min_before m k.at.file n ∙ ap (λ (t : Bool). nat_lt m n || t) l) ∙ or_assoc (nat_lt m n) true rest
    step (Some m) true false l = ap (λ (t : Bool). t || rest) (min_before m k.at.file n ∙ ap (λ (t : Bool). nat_lt m n || t) l) ∙ or_assoc (nat_lt m n) false rest
    step first false true l = refl
    step first false false l = refl

-- what the table tells is what the list says
pub second_law : {S : Type 0} (table : HashMap (Bor (List ℕ)) ℕ S) (name : Bor (List ℕ)) (first : Option ℕ) (k : Known) (all : List Known) → TellsFiles table all → name.now ≡ k.name
    → first ≡ lookup (λ x. bytes_eq name.now x.now) table.entries → is_before_file first k.at.file ≡ is_second all k
second_law table name first k all h same is =
    ap (λ (r : Option ℕ). is_before_file r k.at.file) (is ∙ h.here name ∙ ap (λ (n : List ℕ). first_file_of n all) same) ∙ before_from k.name k.at.file None all
