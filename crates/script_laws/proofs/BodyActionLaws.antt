-- Temporaries and OCALLs of a body without fault are sound.
use Rattle.std.proofs.Common.{arith, ℕ, ◌≡◌, ◌<◌, ◌≤◌, Bool, true, false, List, [], ◌∷◌, ◌++◌, length, map, Option, Some, None, refl, sym, subst, lt-ltb, eqb-true}
use Rattle.std.specs.Prelude.{◌==◌, ◌&&◌, ◌||◌, not, filter, position, unwrap_or, option_map, if◌then◌else◌, is_none, nat_lt, zip, codes}
use Rattle.std.specs.List.{AllZip, list_any, prefix_len}
use Rattle.std.specs.Str.{bytes_eq}
use Rattle.std.proofs.lemmas.Bool.{not-false}
use Rattle.std.proofs.lemmas.List.{length-map}
use Rattle.std.proofs.lemmas.List.Quantifiers.{position-Some}
use Rattle.std.proofs.lemmas.Slice.Eq.{bytes_eq-Decides}
use Rattle.edl_interface.specs.declared.Param.{Param}
use Rattle.edl_interface.specs.declared.Function.{Function}
use Rattle.edl_interface.specs.declared.Interface.{Interface}
use Rattle.edl_interface.specs.Parameters.{is_marshalled, marshalled}
use Rattle.body_vm.specs.declared.Operand.TheVariants.{Number}
use Rattle.body_vm.specs.declared.Pass.TheVariants.{Value as by_number, Bytes as by_block}
use Rattle.call_script.specs.Spelling.{Word}
use Rattle.call_script.specs.Line.{Register}
use Rattle.call_script.specs.Parts.{is_no_name, is_unknown_name}
use Rattle.call_script.specs.BodyNames.{BodyNames, register_of, block_of, block_names, operand_of, pass_of, block_pass, is_unknown_argument, is_wrong_pass}
use Rattle.call_script.specs.Standing.{named, has_other_count, any_argument}
use Rattle.call_script.specs.Meaning.{ordinal_of, passes}
use Rattle.call_script.specs.Sound.{IsRegister, IsBlock, IsTemporary, IsOperand, IsPassAt, IsSoundOcall}
use Rattle.script_laws.proofs.ActionLaws.{there, or-false, no-name, register-below, block-count, operand-is}
use Rattle.script_laws.proofs.ActTreeLaws.{found-at}

-- ---- names

same-symmetric : (a b : Word) → bytes_eq b a ≡ false → bytes_eq a b ≡ false
same-symmetric a b e = go (bytes_eq a b) refl
  where
    go : (t : Bool) → bytes_eq a b ≡ t → t ≡ false
    go false h = refl
    go true h =
        let same : b ≡ a = sym ((bytes_eq-Decides a b).0 h) in let z = (bytes_eq-Decides b a).1 same in absurd cc

pub same-itself : (a : Word) → bytes_eq a a ≡ true
same-itself a = (bytes_eq-Decides a a).1 refl

-- ---- the first place of a name that is not among the first names

any-in : {A : Type 0} (p : A → Bool) (ys : List A) → list_any p ys ≡ true → prefix_len (λ y. not (p y)) ys < length ys
any-in p [] e = absurd cc
any-in p (y ∷ ys) e = go (p y) refl e (any-in p ys)
  where
    go : (t : Bool) → p y ≡ t → (t || list_any p ys) ≡ true
        → (list_any p ys ≡ true → prefix_len (λ y. not (p y)) ys < length ys)
        → prefix_len (λ y. not (p y)) (y ∷ ys) < length (y ∷ ys)
    go true h e rest = rw h (omega arith)
    go false h e rest = let r = rest e in rw h (omega arith)

behind-first : {A : Type 0} (p : A → Bool) (xs ys : List A) → list_any p xs ≡ false → list_any p ys ≡ true
    → (length xs ≤ prefix_len (λ y. not (p y)) (xs ++ ys))
    × (prefix_len (λ y. not (p y)) (xs ++ ys) < length (xs ++ ys))
behind-first p [] ys e f = (omega arith, any-in p ys f)
behind-first p (x ∷ xs) ys e f =
    let first = or-false (p x) (list_any p xs) e in
    let r = behind-first p xs ys first.1 f in
    rw first.0 (omega (arith, r.0), omega (arith, r.1))

position-behind : {A : Type 0} (p : A → Bool) (xs ys : List A) → list_any p xs ≡ false → list_any p ys ≡ true
    → (length xs ≤ unwrap_or (position p (xs ++ ys)) 0) × (unwrap_or (position p (xs ++ ys)) 0 < length (xs ++ ys))
position-behind p xs ys e f =
    let r = behind-first p xs ys e f in
    let within : nat_lt (prefix_len (λ y. not (p y)) (xs ++ ys)) (length (xs ++ ys)) ≡ true = lt-ltb _ _ r.1 in
    subst (λ t. (length xs ≤ unwrap_or (if t then Some (prefix_len (λ y. not (p y)) (xs ++ ys)) else None) 0)
    × (unwrap_or (if t then Some (prefix_len (λ y. not (p y)) (xs ++ ys)) else None) 0 < length (xs ++ ys)))
    (sym within) r

-- no marshalled parameter has the name
no-marshalled : (name : Word) (ps : List Param) → list_any (λ p. is_marshalled p.class && bytes_eq p.name name) ps
    ≡ false → list_any (bytes_eq name) (map (λ p. p.name) (filter (λ p. is_marshalled p.class) ps)) ≡ false
no-marshalled name [] e = refl
no-marshalled name (p ∷ ps) e =
    let first = or-false (is_marshalled p.class && bytes_eq p.name name)
    (list_any (λ p. is_marshalled p.class && bytes_eq p.name name) ps) e in
    go (is_marshalled p.class) refl first.0 (no-marshalled name ps first.1)
  where
    go : (t : Bool) → is_marshalled p.class ≡ t → (t && bytes_eq p.name name) ≡ false
        → list_any (bytes_eq name) (map (λ p. p.name) (filter (λ p. is_marshalled p.class) ps)) ≡ false
        → list_any (bytes_eq name) (map (λ p. p.name) (if t then p ∷ filter (λ p. is_marshalled p.class) ps
        else filter (λ p. is_marshalled p.class) ps)) ≡ false
    go true h e rest = rw (same-symmetric name p.name e) rest
    go false h e rest = rest

module _ (i : Interface) (f : Function) (temporaries : List Word) (count left : ℕ) where
  abbrev here : BodyNames
  here = record { params = f.params; temporaries = temporaries }

  -- ---- temporaries

  pub temporary-is : (name size : Word) → list_any (λ p. is_marshalled p.class && bytes_eq p.name name) f.params
      ≡ false → list_any (bytes_eq name) temporaries ≡ true
      → IsTemporary i count f (length temporaries) (unwrap_or (block_of here name) 0)
  temporary-is name size e h =
      let r = position-behind (bytes_eq name) (map (λ p. p.name) (marshalled f)) temporaries
      (no-marshalled name f.params e) h in
      let total = block-count i f temporaries count left in
      let some = length-map (marshalled f) (λ p. p.name) in
      (omega arith, omega arith)

  -- ---- OCALLs

  register-is : (w : Word) → is_no_name Register w ≡ false → is_unknown_name here Register w ≡ false
      → IsRegister (unwrap_or (register_of w) 0)
  register-is w e h =
      let r = there (register_of w) (no-name w (is_none (register_of w)) e h) in rw r.1 (register-below w r.0 r.1)

  block-is : (w : Word) (b : ℕ) → block_of here w ≡ Some b → IsBlock i count f (length temporaries) b
  block-is w b e =
      let below : b < length (block_names here) = (position-Some (bytes_eq w) (block_names here) b [] e).0 in
      let total = block-count i f temporaries count left in
      omega arith

  pass-known : (p : Param) (w : Word) → is_wrong_pass here p w ≡ false → is_unknown_argument here p w ≡ false
      → is_none (pass_of here p w) ≡ false
  pass-known p w a b = go (is_none (pass_of here p w)) (is_unknown_argument here p w) a b
    where
      go : (t u : Bool) → (t && not u) ≡ false → u ≡ false → t ≡ false
      go false u a b = refl
      go true false a b = absurd cc
      go true true a b = absurd cc

  pass-is : (p : Param) (w : Word) → is_none (pass_of here p w) ≡ false
      → IsPassAt i count f (length temporaries) p (unwrap_or (pass_of here p w) (by_block None))
  pass-is p w e = go (is_marshalled p.class) refl e
    where
      value : (o : Option _) → operand_of here w ≡ o → is_marshalled p.class ≡ false
          → is_none (option_map by_number o) ≡ false
          → IsPassAt i count f (length temporaries) p (unwrap_or (option_map by_number o) (by_block None))
      value None h m e = absurd cc
      value (Some v) h m e = (
        m,
        subst (λ o. IsOperand i count f (length temporaries) (unwrap_or o (Number 0))) h
            (operand-is i f temporaries count left w _ _ _ refl refl refl
            (subst (λ o. is_none o ≡ false) (sym h) refl)),
      )

      block : (o : Option ℕ) → block_of here w ≡ o → is_marshalled p.class ≡ true
          → is_none (option_map (λ place. by_block (Some place)) o) ≡ false
          → IsPassAt i count f (length temporaries) p
          (unwrap_or (option_map (λ place. by_block (Some place)) o) (by_block None))
      block None h m e = absurd cc
      block (Some b) h m e = (m, block-is w b h)

      passed : (t : Bool) → is_marshalled p.class ≡ true
          → is_none (if t then Some (by_block None) else option_map (λ place. by_block (Some place)) (block_of here w))
          ≡ false
          → IsPassAt i count f (length temporaries) p (unwrap_or (if t then Some (by_block None)
          else option_map (λ place. by_block (Some place)) (block_of here w)) (by_block None))
      passed true m e = m
      passed false m e = block (block_of here w) refl m e

      go : (t : Bool) → is_marshalled p.class ≡ t
          → is_none (if t then block_pass here w else option_map by_number (operand_of here w)) ≡ false
          → IsPassAt i count f (length temporaries) p
          (unwrap_or (if t then block_pass here w else option_map by_number (operand_of here w)) (by_block None))
      go true m e = passed (bytes_eq w (codes "null")) m e
      go false m e = value (operand_of here w) refl m e

  passes-are : (params : List Param) (args : List Word) → length args ≡ length params
      → list_any (λ p. is_wrong_pass here p.0 p.1) (zip params args) ≡ false
      → list_any (λ p. is_unknown_argument here p.0 p.1) (zip params args) ≡ false
      → AllZip (IsPassAt i count f (length temporaries)) params
      (map (λ p. unwrap_or (pass_of here p.0 p.1) (by_block None)) (zip params args))
  passes-are [] args n a b = tt
  passes-are (p ∷ params) [] n a b = absurd (omega arith)
  passes-are (p ∷ params) (w ∷ args) n a b =
      let wrong = or-false (is_wrong_pass here p w) (list_any (λ q. is_wrong_pass here q.0 q.1) (zip params args)) a in
      let unknown =
      or-false (is_unknown_argument here p w) (list_any (λ q. is_unknown_argument here q.0 q.1) (zip params args))
      b in
      (pass-is p w (pass-known p w wrong.0 unknown.0), passes-are params args (omega arith) wrong.1 unknown.1)

  -- by the rules on unknown functions, on arguments and on names
  pub ocall-is : (racing : Bool) (script : List _) (r q name : Word) (args : List Word)
      → (is_no_name Register r || is_no_name Register q) ≡ false → is_none (named i.ocalls name) ≡ false
      → (has_other_count (named i.ocalls name) args || any_argument (is_wrong_pass here) (named i.ocalls name) args)
      ≡ false
      → (is_unknown_name here Register r || is_unknown_name here Register q
      || any_argument (is_unknown_argument here) (named i.ocalls name) args) ≡ false
      → IsRegister (unwrap_or (register_of r) 0) × IsRegister (unwrap_or (register_of q) 0)
      × IsSoundOcall i count f (length temporaries) (ordinal_of i.ocalls name)
      (passes i racing script here (named i.ocalls name) args)
  ocall-is racing script r q name args one five six eight =
      let named-ones = or-false (is_no_name Register r) (is_no_name Register q) one in
      let known = or-false (is_unknown_name here Register r || is_unknown_name here Register q)
      (any_argument (is_unknown_argument here) (named i.ocalls name) args) eight in
      let registers = or-false (is_unknown_name here Register r) (is_unknown_name here Register q) known.0 in
      let function = there (named i.ocalls name) five in
      let wrong = or-false (has_other_count (named i.ocalls name) args)
      (any_argument (is_wrong_pass here) (named i.ocalls name) args) six in
      let length-is : not (length args == length function.0.params) ≡ false =
      subst (λ o. has_other_count o args ≡ false) function.1 wrong.0 in (
        register-is r named-ones.0 registers.0,
        register-is q named-ones.1 registers.1,
        record {
          function = function.0;
          found = found-at i.ocalls name function.0 function.1;
          fits =
              subst (λ o. AllZip (IsPassAt i count f (length temporaries)) function.0.params
              (passes i racing script here o args)) (sym function.1)
              (passes-are function.0.params args
              (eqb-true (length args) (length function.0.params) (not-false _ length-is))
              (subst (λ o. any_argument (is_wrong_pass here) o args ≡ false) function.1 wrong.1)
              (subst (λ o. any_argument (is_unknown_argument here) o args ≡ false) function.1 known.1));
        },
      )
