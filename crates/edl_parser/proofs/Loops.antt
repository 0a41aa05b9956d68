-- The loops of the parser: the stars of a type, and items that are joined into one file.
use Rattle.std.proofs.Common.{arith, append_assoc, ◌≡◌, ◌+◌, ℕ, suc, Bool, true, List, [], ◌∷◌, length, refl, sym, ◌∙◌, ap, Option, Some, None, Ok, Err, ◌<◌}
use Rattle.edl_grammar.specs.declared.EdlFile.{EdlFile}
use Rattle.edl_grammar.specs.Symbols.{Symbol, Lexed}
use Rattle.edl_grammar.specs.Grammar.{both, all_of}
use Rattle.edl_grammar.specs.Parser.{Parser, Outcome, and_then, sees, with_front, is_mark}
use Rattle.edl_grammar.specs.Parser as parse
use Rattle.edl_grammar.proofs.Agrees.{ok_left, ok_value}
use Rattle.edl_parser.specs.Reads.{behind}
use Rattle.edl_grammar.proofs.Many.{Shrinks, many_turn}

-- ---- items

-- the file that was read before, and then the items that are read
abbrev pub with_file : EdlFile → Outcome (List EdlFile) → Outcome EdlFile
with_file f (Ok p) = Ok (both f (all_of p.0), p.1)
with_file f (Err r) = Err r

both_assoc : (f g h : EdlFile) → both f (both g h) ≡ both (both f g) h
both_assoc f g h = λ i. record {
  includes = sym (append_assoc f.includes g.includes h.includes) i;
  imports = sym (append_assoc f.imports g.imports h.imports) i;
  types = sym (append_assoc f.types g.types h.types) i;
  trusted = sym (append_assoc f.trusted g.trusted h.trusted) i;
  untrusted = sym (append_assoc f.untrusted g.untrusted h.untrusted) i;
}

file_front : (f g : EdlFile) (r : Outcome (List EdlFile)) → with_file f (with_front (g ∷ []) r) ≡ with_file (both f g) r
file_front f g (Ok p) = ap (λ (h : EdlFile). Ok (h, p.1)) (both_assoc f g (all_of p.0))
file_front f g (Err r) = refl

module _ (test : Symbol → Bool) (p : Parser EdlFile) where
  -- one more item
  pub turn_file : Shrinks test p → (f g : EdlFile) (ss rest : List Lexed) (whole : Outcome EdlFile) → sees test ss ≡ true → p ss ≡ Ok (g, rest)
      → with_file f (parse.many test p ss) ≡ whole → with_file (both f g) (parse.many test p rest) ≡ whole
  turn_file shrinks f g ss rest whole t e h =
      sym (file_front f g (parse.many test p rest)) ∙ ap (λ r. with_file f r) (sym (many_turn test p shrinks ss rest g t e)) ∙ h

-- ---- items that go to the ends of a file

-- an item that was read, and the file with it
record Added (f new : EdlFile) (outcome : Outcome EdlFile) (rest : List Lexed) : Type 0 where
  item : EdlFile
  reads : outcome ≡ Ok (item, rest)
  joined : both f item ≡ new

added : (f new : EdlFile) (outcome : Outcome EdlFile) (rest : List Lexed) → behind f outcome ≡ Ok (new, rest) → Added f new outcome rest
added f new (Ok (g, r)) rest e =
    record { item = g; reads = ap (λ (z : List Lexed). Ok (g, z)) (ok_left e); joined = ok_value e }
added f new (Err r) rest e = absurd cc

module _ (test : Symbol → Bool) (p : Parser EdlFile) where
  pub item_turn : Shrinks test p → (f new : EdlFile) (ss rest : List Lexed) (whole : Outcome EdlFile) → sees test ss ≡ true → behind f (p ss) ≡ Ok (new, rest)
      → with_file f (parse.many test p ss) ≡ whole → with_file new (parse.many test p rest) ≡ whole
  item_turn shrinks f new ss rest whole t e h =
      let a = added f new (p ss) rest e in
      ap (λ (g : EdlFile). with_file g (parse.many test p rest)) (sym a.joined) ∙ turn_file test p shrinks f a.item ss rest whole t a.reads h

  pub item_shorter : Shrinks test p → (f new : EdlFile) (ss rest : List Lexed) → behind f (p ss) ≡ Ok (new, rest) → length rest < length ss
  item_shorter shrinks f new ss rest e = let a = added f new (p ss) rest e in shrinks ss rest a.item a.reads

-- ---- stars

-- so many stars, and then the stars that are read
abbrev pub stars_after : ℕ → Outcome (List ℕ) → Outcome ℕ
stars_after n r = and_then r (λ stars rest. Ok (n + length stars, rest))

pub stars_start : (r : Outcome (List ℕ)) → stars_after 0 r ≡ and_then r (λ stars. parse.pure (length stars))
stars_start (Ok p) = let e : 0 + length p.0 ≡ length p.0 = omega arith in ap (λ (n : ℕ). Ok (n, p.1)) e
stars_start (Err r) = refl

star_front : (n k : ℕ) (r : Outcome (List ℕ)) → stars_after n (with_front (k ∷ []) r) ≡ stars_after (n + 1) r
star_front n k (Ok p) = let e : n + suc (length p.0) ≡ n + 1 + length p.0 = omega arith in ap (λ (m : ℕ). Ok (m, p.1)) e
star_front n k (Err r) = refl

-- one star is one symbol
pub star_length : (ss rest : List Lexed) (k : ℕ) → parse.mark "*" ss ≡ Ok (k, rest) → length ss ≡ suc (length rest)
star_length [] rest k e = absurd cc
star_length (s ∷ ss) rest k e = ap (λ r. suc (length r)) (by (parse.token_if (is_mark "*" s.symbol) s.token) e)
  where
    by : (o : Option ℕ) → parse.given_by o (s ∷ ss) ss ≡ Ok (k, rest) → ss ≡ rest
    by None h = absurd cc
    by (Some a) h = ok_left h

-- one more star
pub star_turn : (n m : ℕ) (ss rest : List Lexed) (k : ℕ) (whole : Outcome ℕ) → sees (is_mark "*") ss ≡ true → parse.mark "*" ss ≡ Ok (k, rest) → m ≡ n + 1
    → stars_after n (parse.many (is_mark "*") (parse.mark "*") ss) ≡ whole → stars_after m (parse.many (is_mark "*") (parse.mark "*") rest) ≡ whole
star_turn n m ss rest k whole t e more h =
    ap (λ z. stars_after z (parse.many (is_mark "*") (parse.mark "*") rest)) more ∙ sym (star_front n k (parse.many (is_mark "*") (parse.mark "*") rest))
    ∙ ap (λ r. stars_after n r) (sym (many_turn (is_mark "*") (parse.mark "*") star_shrinks ss rest k t e)) ∙ h
  where
    star_shrinks : Shrinks (is_mark "*") (parse.mark "*")
    star_shrinks ss rest k e = let l = star_length ss rest k e in omega arith
