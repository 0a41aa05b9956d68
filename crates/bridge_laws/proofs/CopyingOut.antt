-- The instructions that put parameters back do what putting them back is defined to do.
use Rattle.std.proofs.Common.{ℕ, suc, ◌≡◌, Bool, true, false, if◌then◌else◌, List, [], ◌∷◌, ◌++◌, zip, drop, Option, Some, None, is_some, option_map, unwrap_or, slice_get, Ok, refl, ap, sym, ◌∙◌}
use Rattle.std.specs.List.{filter}
use Rattle.sgx_base.specs.Passing.{is_outward}
use Rattle.sgx_base.specs.declared.Passing.{Passing}
use Rattle.edl_interface.specs.declared.Param.{Param}
use Rattle.edl_interface.specs.declared.Function.{Function}
use Rattle.edl_interface.specs.Parameters.{way_of, is_marshalled, is_out, address_in}
use Rattle.word_port.specs.Interaction.{Interaction, ret, and_then, map_value}
use Rattle.word_port.proofs.Laws.{and_then-assoc}
use Rattle.call_copy.specs.Copies.{copy_out}
use Rattle.call_machine.specs.declared.Machine.{Machine}
use Rattle.call_machine.specs.Context.{Context}
use Rattle.call_machine.specs.Result.{go_on_if_ok, and_then_ok}
use Rattle.call_machine.specs.Ecall.{Ocalls, shape_of, copies_out}
use Rattle.bridge_program.specs.declared.Instr.{Instr}
use Rattle.bridge_program.specs.declared.Instr.TheVariants.{CopyOut}
use Rattle.bridge_program.specs.Lists.{each_from}
use Rattle.bridge_laws.specs.Meaning.{State, Doing, with_param, unless_null, block_at, place_of, copied_out, means, list_means}
use Rattle.bridge_laws.proofs.Trees.{same_next}
use Rattle.bridge_laws.proofs.Places.{get_drop, drop_next, get_none, drop_none, place_next}
use Rattle.bridge_laws.proofs.CopyingIn.{followed}

not_out : (w : Option Passing) → is_some w ≡ false → unwrap_or (option_map is_outward w) false ≡ false
not_out None e = refl
not_out (Some way) e = let no : ⊥ = cc in absurd no

zip_none : (ps : List Param) → zip {K = Param} {X = Option (List ℕ)} ps [] ≡ []
zip_none [] = refl
zip_none (p ∷ ps) = refl

module _ (m : Machine) (ocalls : Ocalls) (cx : Context) (ordinal address : ℕ) (f : Function) (s : State) where
  abbrev does : List Instr → Doing
  does list = list_means m ocalls cx ordinal address f list s

  abbrev puts_from : ℕ → List Param → List Instr
  puts_from n ps = each_from n (λ k q. if is_out q.class then CopyOut k ∷ [] else []) ps

  abbrev marshalled_of : List Param → List Param
  marshalled_of ps = filter (λ q. is_marshalled q.class) ps

  -- one block, and then what follows
  abbrev put_and : Bool → Param → Option (List ℕ) → Interaction (Unit {0}) → Interaction (Unit {0})
  put_and out p None rest = rest
  put_and out p (Some bytes) rest = if out then and_then (copy_out (shape_of p.class) (address_in s.frame p) bytes) (λ done. rest) else rest

  one_out : (out : Bool) (n : ℕ) (p : Param) (block : Option (List ℕ)) (list : List Instr) (rest : Interaction (Unit {0}))
      → slice_get f.params n ≡ Some p → block_at s (place_of n f.params) ≡ block → does list ≡ map_value (λ done. Ok s) rest
      → does ((if out then CopyOut n ∷ [] else []) ++ list) ≡ map_value (λ done. Ok s) (put_and out p block rest)
  one_out false n p None list rest g b more = more
  one_out false n p (Some bytes) list rest g b more = more
  one_out true n p None list rest g b more =
      followed (means m ocalls cx ordinal address f (CopyOut n) s) s (list_means m ocalls cx ordinal address f list)
      (ap (λ o. with_param o s (copied_out (place_of n f.params) s)) g
      ∙ ap (λ o. unless_null o s (λ these. map_value (λ done. Ok s) (copy_out (shape_of p.class) (address_in s.frame p) these))) b)
      ∙ more
  one_out true n p (Some bytes) list rest g b more =
      let copying : Interaction (Unit {0}) = copy_out (shape_of p.class) (address_in s.frame p) bytes in
      ap (λ t. and_then_ok t (list_means m ocalls cx ordinal address f list))
      (ap (λ o. with_param o s (copied_out (place_of n f.params) s)) g
      ∙ ap (λ o. unless_null o s (λ these. map_value (λ done. Ok s) (copy_out (shape_of p.class) (address_in s.frame p) these))) b)
      ∙ and_then-assoc copying (λ done. ret (Ok s)) (go_on_if_ok (list_means m ocalls cx ordinal address f list))
      ∙ same_next copying (λ done. does list) (λ done. map_value (λ u. Ok s) rest) (λ done. more)
      ∙ sym (and_then-assoc copying (λ done. rest) (λ u. ret (Ok s)))

  block_of_drop : (k : ℕ) (x : Option (List ℕ)) (rest : List (Option (List ℕ))) → drop k s.blocks ≡ x ∷ rest → block_at s k ≡ x
  block_of_drop k x rest e = ap (λ o. unwrap_or o None) (get_drop s.blocks k x rest e)

  module _ (n : ℕ) (p : Param) (ps : List Param) (e : drop n f.params ≡ p ∷ ps)
      (more : (bs : List (Option (List ℕ))) → drop (place_of (suc n) f.params) s.blocks ≡ bs → does (puts_from (suc n) ps) ≡ map_value (λ done. Ok s) (copies_out s.frame (zip (marshalled_of ps) bs))) where
    next_place : (b : Bool) → is_marshalled p.class ≡ b → place_of (suc n) f.params ≡ (if b then suc (place_of n f.params) else place_of n f.params)
    next_place b h = place_next f.params n p ps e ∙ ap (λ c. if c then suc (place_of n f.params) else place_of n f.params) h

    by_block : is_marshalled p.class ≡ true → (bs : List (Option (List ℕ))) → drop (place_of n f.params) s.blocks ≡ bs
        → does ((if is_out p.class then CopyOut n ∷ [] else []) ++ puts_from (suc n) ps) ≡ map_value (λ done. Ok s) (copies_out s.frame (zip (p ∷ marshalled_of ps) bs))
    by_block b [] d =
        one_out (is_out p.class) n p None (puts_from (suc n) ps) (ret tt) (get_drop f.params n p ps e) (ap (λ o. unwrap_or o None) (get_none s.blocks (place_of n f.params) d))
        (more [] (ap (λ k. drop k s.blocks) (next_place true b) ∙ drop_none s.blocks (place_of n f.params) d)
        ∙ ap (λ l. map_value (λ done. Ok s) (copies_out s.frame l)) (zip_none (marshalled_of ps)))
    by_block b (None ∷ bs) d =
        one_out (is_out p.class) n p None (puts_from (suc n) ps) (copies_out s.frame (zip (marshalled_of ps) bs)) (get_drop f.params n p ps e)
        (block_of_drop (place_of n f.params) None bs d)
        (more bs (ap (λ k. drop k s.blocks) (next_place true b) ∙ drop_next s.blocks (place_of n f.params) None bs d))
    by_block b (Some bytes ∷ bs) d =
        one_out (is_out p.class) n p (Some bytes) (puts_from (suc n) ps) (copies_out s.frame (zip (marshalled_of ps) bs)) (get_drop f.params n p ps e)
        (block_of_drop (place_of n f.params) (Some bytes) bs d)
        (more bs (ap (λ k. drop k s.blocks) (next_place true b) ∙ drop_next s.blocks (place_of n f.params) (Some bytes) bs d))

    by_class : (b : Bool) → is_marshalled p.class ≡ b → (bs : List (Option (List ℕ))) → drop (place_of n f.params) s.blocks ≡ bs
        → does ((if is_out p.class then CopyOut n ∷ [] else []) ++ puts_from (suc n) ps)
        ≡ map_value (λ done. Ok s) (copies_out s.frame (zip (if b then p ∷ marshalled_of ps else marshalled_of ps) bs))
    by_class true b bs d = by_block b bs d
    by_class false b bs d =
        ap (λ c. does ((if c then CopyOut n ∷ [] else []) ++ puts_from (suc n) ps)) (not_out (way_of p.class) b)
        ∙ more bs (ap (λ k. drop k s.blocks) (next_place false b) ∙ d)

  -- the `out` parameters from a number on
  pub puts_do : (ps : List Param) (n : ℕ) → drop n f.params ≡ ps → (bs : List (Option (List ℕ))) → drop (place_of n f.params) s.blocks ≡ bs
      → does (puts_from n ps) ≡ map_value (λ done. Ok s) (copies_out s.frame (zip (marshalled_of ps) bs))
  puts_do [] n e bs d = refl
  puts_do (p ∷ ps) n e bs d = by_class n p ps e (λ cs c. puts_do ps (suc n) (drop_next f.params n p ps e) cs c) (is_marshalled p.class) refl bs d
