-- What follows of a parser that agrees with a production, for a list of symbols as a whole.
use Rattle.std.proofs.Common.{arith, append_assoc, append-nil, ◌≡◌, ◌≤◌, ◌<◌, ◌-◌, ℕ, suc, List, [], ◌∷◌, ◌++◌, length, take, length-append, refl, sym, ◌∙◌, ap, subst, Option, Some, None, Ok, Err}
use Rattle.edl_grammar.specs.Symbols.{Lexed}
use Rattle.edl_grammar.specs.Production.{Production}
use Rattle.edl_lexer.specs.declared.Token.{Token}
use Rattle.edl_grammar.specs.declared.EdlFile.{EdlFile}
use Rattle.edl_grammar.specs.Symbols.{symbols}
use Rattle.edl_grammar.specs.Grammar.{file}
use Rattle.edl_grammar.specs.Sentence.{IsViable, IsFirstUnexpected, Parses, deep_in, least}
use Rattle.edl_grammar.specs.Parser.{Parser, Outcome}
use Rattle.edl_grammar.specs.Parser as parse
use Rattle.edl_grammar.proofs.Agrees.{Agrees, anywhere, IsSteady, left, ok_value, ok_left, not_ok}

module _ {A : Type 0} {P : Production A} {p : Parser A} (h : Agrees P p anywhere) where
  -- a sentence is read to its end
  pub reads : (ss : List Lexed) (a : A) → P ss a → p ss ≡ Ok (a, [])
  reads ss a d = subst (λ z. p z ≡ Ok (a, [])) (append-nil ss) (h.complete ss [] a d refl)

  -- a sentence has one value
  pub one_value : (ss : List Lexed) (a b : A) → P ss a → P ss b → a ≡ b
  one_value ss a b d e = ok_value (sym (reads ss a d) ∙ reads ss b e)

  -- Where symbols are left, no sentence begins with those before and the first of these.
  pub dead : (front back more : List Lexed) (s : Lexed) (a : A) → left (p (front ++ s ∷ back)) ≡ s ∷ back → P (front ++ s ∷ more) a → ⊥
  dead front back more s a stop d =
      go (p u) (subst (λ z. IsSteady back (p u) (p z)) (append_assoc front (s ∷ []) back) (h.steady u back))
      (subst (λ z. IsSteady more (p u) (p z)) (append_assoc front (s ∷ []) more) (h.steady u more))
    where
      u : List Lexed
      u = front ++ s ∷ []

      whole : p (front ++ s ∷ more) ≡ Ok (a, [])
      whole = reads (front ++ s ∷ more) a d

      go : (r : Outcome A) → IsSteady back r (p (front ++ s ∷ back)) → IsSteady more r (p (front ++ s ∷ more)) → ⊥
      go (Ok (b, [])) i j = let l : suc (length back) ≤ length back = subst (λ z. length z ≤ length back) stop i in omega arith
      go (Err []) i j = let l : suc (length back) ≤ length back = subst (λ z. length z ≤ length back) stop i in omega arith
      go (Ok (b, x ∷ xs)) i j = let e : [] ≡ (x ∷ xs) ++ more = ok_left (sym whole ∙ j) in cc
      go (Err (x ∷ xs)) i j = not_ok (sym j ∙ whole)

-- the front of a list that is cut there
take_front : (front rest : List Lexed) → take (length front) (front ++ rest) ≡ front
take_front [] rest = refl
take_front (s ∷ ss) rest = ap (λ z. s ∷ z) (take_front ss rest)

take_next : (front back : List Lexed) (s : Lexed) → take (suc (length front)) (front ++ s ∷ back) ≡ front ++ s ∷ []
take_next [] back s = refl
take_next (x ∷ xs) back s = ap (λ z. x ∷ z) (take_next xs back s)

none_least : (ns : List ℕ) → least ns ≡ None → ns ≡ []
none_least [] e = refl
none_least (n ∷ ns) e = absurd cc

more_left : (tree a : EdlFile) (s : Lexed) (rest : List Lexed) → ◌≡◌ {A = Outcome EdlFile} (Ok (tree, s ∷ rest)) (Ok (a, [])) → ⊥
more_left tree a s rest e = let g : s ∷ rest ≡ [] = ok_left e in cc

-- what is left is unexpected: the parser stops there, or it is done there and something is left
module _ (h : Agrees file parse.file anywhere) where
  unexpected : (ss front rest : List Lexed) → ss ≡ front ++ rest → IsViable front → ((a : EdlFile) → file ss a → ⊥) → left (parse.file ss) ≡ rest
      → IsFirstUnexpected ss (length ss - length rest)
  unexpected ss front rest cut viable unfinished stop = subst (λ z. IsFirstUnexpected z (length z - length rest)) (sym cut)
      (subst (IsFirstUnexpected (front ++ rest)) place (record {
        within = omega (arith, length-append front rest);
        viable = subst IsViable (sym (take_front front rest)) viable;
        longest = longest rest (subst (λ z. left (parse.file z) ≡ rest) cut stop);
        unfinished = λ d. unfinished d.0 (subst (λ z. file z d.0) (sym cut) d.1);
      }))
    where
      place : length front ≡ length (front ++ rest) - length rest
      place = omega (arith, length-append front rest)

      longest : (rest : List Lexed) → left (parse.file (front ++ rest)) ≡ rest → length front < length (front ++ rest) → IsViable (take (suc (length front)) (front ++ rest)) → ⊥
      longest [] e l v = omega (arith, length-append front [])
      longest (s ∷ back) e l v =
          let w : IsViable (front ++ s ∷ []) = subst IsViable (take_next front back s) v in
          dead h front back w.0 s w.1.0 e (subst (λ z. file z w.1.0) (append_assoc front (s ∷ []) w.0) w.1.1)

  -- what the parser answers
  pub parses : (number : ℕ) (bytes : List ℕ) (tokens : List Token) → length (symbols bytes tokens) ≡ length tokens → Parses number bytes tokens (parse.parsing number bytes tokens)
  parses number bytes tokens long = go (parse.file (symbols bytes tokens)) refl
    where
      ss : List Lexed
      ss = symbols bytes tokens

      first : (front rest : List Lexed) → ss ≡ front ++ rest → IsViable front → ((a : EdlFile) → file ss a → ⊥) → left (parse.file ss) ≡ rest → IsFirstUnexpected ss (length tokens - length rest)
      first front rest cut viable unfinished stop = subst (λ n. IsFirstUnexpected ss (n - length rest)) long (unexpected ss front rest cut viable unfinished stop)

      by_depth : (tree : EdlFile) → file ss tree → (o : Option ℕ) → least (deep_in tree) ≡ o → Parses number bytes tokens (parse.unless_deep number bytes tokens tree o)
      by_depth tree d None e = (d, none_least (deep_in tree) e)
      by_depth tree d (Some token) e = (tree, token, d, e, refl)

      go : (r : Outcome EdlFile) → parse.file ss ≡ r → Parses number bytes tokens (parse.whole number bytes tokens r)
      go (Err rest) e =
          let x = h.err ss rest e in
          (first x.0 rest x.3 (x.1, (x.2, x.4)) (λ a d. not_ok (sym e ∙ reads h ss a d)) (ap left e), refl)
      go (Ok (tree, s ∷ rest)) e =
          let x = h.ok ss (s ∷ rest) tree e in
          (first x.0 (s ∷ rest) x.1 ([], (tree, subst (λ z. file z tree) (sym (append-nil x.0)) x.2)) (λ a d. more_left tree a s rest (sym e ∙ reads h ss a d)) (ap left e), refl)
      go (Ok (tree, [])) e =
          let x = h.ok ss [] tree e in
          by_depth tree (subst (λ z. file z tree) (sym (x.1 ∙ append-nil x.0)) x.2) (least (deep_in tree)) refl
