-- A row that tells which ECALLs are allowed, as it is printed.
use Rattle.std.proofs.Common.{ℕ, zero, suc, ◌+◌, ◌<◌, ◌≡◌, Bool, false, List, [], ◌∷◌, ◌++◌, length, get_or, refl, ap, ◌∙◌, arith}
use Rattle.std.specs.Prelude.{flat_map, ◌==◌}
use Rattle.std.specs.List.{list_any}
use Rattle.edl_grammar.specs.declared.FuncDecl.{FuncDecl}
use Rattle.stub_printer.specs.Stubs.{flag_text, allow_flag, allow_flags, each_from, TellsAllowed}

module _ (allow : List ℕ) where
  row_from : (n : ℕ) (row : List Bool) (ecalls : List FuncDecl) → length row ≡ length ecalls
      → ((k : ℕ) → k < length row → get_or row k false ≡ list_any (λ a. a == n + k) allow)
      → flat_map flag_text row ≡ each_from n (λ ordinal f. allow_flag allow ordinal) ecalls
  row_from n [] [] e h = refl
  row_from n [] (f ∷ ecalls) e h = absurd (omega arith)
  row_from n (b ∷ row) [] e h = absurd (omega arith)
  row_from n (b ∷ row) (f ∷ ecalls) e h =
      let here : n + 0 ≡ n = omega arith in
      let first : b ≡ list_any (λ a. a == n) allow = rw here at (h 0 (omega arith)) in
      rw first (ap (λ l. allow_flag allow n ++ l) (row_from (n + 1) row ecalls (omega arith) (λ k i. h (suc k) (omega arith) ∙ ap (λ m. list_any (λ a. a == m) allow) (omega arith))))

pub row_text : (count : ℕ) (allow : List ℕ) (row : List Bool) (ecalls : List FuncDecl) → TellsAllowed count allow row → count ≡ length ecalls
    → flat_map flag_text row ≡ allow_flags allow ecalls
row_text count allow row ecalls t e =
    row_from allow 0 row ecalls (t.count_is ∙ e)
    (λ k i. t.each k (omega (arith, t.count_is)) ∙ ap (λ m. list_any (λ a. a == m) allow) (omega arith))
