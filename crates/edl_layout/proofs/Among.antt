-- The first fault of a list that is looked through.
use Rattle.std.proofs.Common.{ℕ, ◌+◌, ◌≡◌, ◌<◌, ◌≤◌, length, get_or, drop, List, [], ◌∷◌, ◌++◌, Option, Some, None, sym, ◌∙◌, ap, subst, inl, inr}
use Rattle.std.specs.Prelude.{All, MatchOption, filter_map}
use Rattle.std.proofs.lemmas.List.Elements.{All-nil, All-cons, All-head, All-tail, All-append, filter_map-append}
use Rattle.std.proofs.Math.ListN.{drop_of_length-le}
use Rattle.edl_layout.specs.Faults.{FaultAmong}
use Rattle.edl_layout.specs.Picks.{Checked}
use Rattle.edl_layout.proofs.Pushing.{dropped}

module _ {U F : Type 0} (IsClean : U → Type 0) (HasFault : U → F → Type 0) where
  behind : (us vs : List U) (e : F) → All IsClean us → FaultAmong IsClean HasFault vs e → FaultAmong IsClean HasFault (us ++ vs) e
  behind [] vs e clean h = h
  behind (u ∷ us) vs e clean h = inr (All-head IsClean u us clean, behind us vs e (All-tail IsClean u us clean) h)

  in_front : (us vs : List U) (e : F) → FaultAmong IsClean HasFault us e → FaultAmong IsClean HasFault (us ++ vs) e
  in_front [] vs e h = absurd h
  in_front (u ∷ us) vs e (inl h) = inl h
  in_front (u ∷ us) vs e (inr h) = inr (h.0, in_front us vs e h.1)

  -- what was looked through is clean
  pub checked_rest : (us vs : List U) (o : Option F) → Checked IsClean HasFault us None → Checked IsClean HasFault vs o → Checked IsClean HasFault (us ++ vs) o
  checked_rest us vs None clean h = All-append IsClean us vs clean h
  checked_rest us vs (Some e) clean h = behind us vs e clean h

  -- a fault was found
  pub checked_front : (us vs : List U) (e : F) → Checked IsClean HasFault us (Some e) → Checked IsClean HasFault (us ++ vs) (Some e)
  checked_front us vs e h = in_front us vs e h

  -- of one alone
  pub checked_one : (u : U) (o : Option F) → MatchOption o (IsClean u) (HasFault u) → Checked IsClean HasFault (u ∷ []) o
  checked_one u None h = All-cons IsClean u [] h (All-nil IsClean)
  checked_one u (Some e) h = inl h

  pub checked_none : Checked IsClean HasFault [] None
  checked_none = All-nil IsClean

  -- ---- in a loop over things

  pub turn : (us : List U) (i : ℕ) (u d : U) (o : Option F) → i < length us → u ≡ get_or us i d → MatchOption {T = F} None (IsClean u) (HasFault u) → Checked IsClean HasFault (drop (i + 1) us) o → Checked IsClean HasFault (drop i us) o
  turn us i u d o h e clean rest = subst (λ (vs : List U). Checked IsClean HasFault vs o) (sym (dropped us i u d h e)) (checked_rest (u ∷ []) (drop (i + 1) us) o (checked_one u None clean) rest)

  pub stop : (us : List U) (i : ℕ) (u d : U) (e : F) → i < length us → u ≡ get_or us i d → HasFault u e → Checked IsClean HasFault (drop i us) (Some e)
  stop us i u d e h is fault = subst (λ (vs : List U). Checked IsClean HasFault vs (Some e)) (sym (dropped us i u d h is)) (inl fault)

  pub end : (us : List U) (i : ℕ) → length us ≤ i → Checked IsClean HasFault (drop i us) None
  end us i h = subst (λ (vs : List U). Checked IsClean HasFault vs None) (sym (drop_of_length-le us h)) checked_none

  -- ---- in a loop over what may be a thing

  module _ {P : Type 0} (thing : P → Option U) (ps : List P) where
    part : (i : ℕ) (p d : P) → i < length ps → p ≡ get_or ps i d → filter_map thing (drop i ps) ≡ filter_map thing (p ∷ []) ++ filter_map thing (drop (i + 1) ps)
    part i p d h e = ap (filter_map thing) (dropped ps i p d h e) ∙ filter_map-append thing (p ∷ []) (drop (i + 1) ps)

    pub picks_turn : (i : ℕ) (p d : P) (o : Option F) → i < length ps → p ≡ get_or ps i d → Checked IsClean HasFault (filter_map thing (p ∷ [])) None → Checked IsClean HasFault (filter_map thing (drop (i + 1) ps)) o → Checked IsClean HasFault (filter_map thing (drop i ps)) o
    picks_turn i p d o h e clean rest = subst (λ (vs : List U). Checked IsClean HasFault vs o) (sym (part i p d h e)) (checked_rest (filter_map thing (p ∷ [])) (filter_map thing (drop (i + 1) ps)) o clean rest)

    pub picks_stop : (i : ℕ) (p d : P) (f : F) → i < length ps → p ≡ get_or ps i d → Checked IsClean HasFault (filter_map thing (p ∷ [])) (Some f) → Checked IsClean HasFault (filter_map thing (drop i ps)) (Some f)
    picks_stop i p d f h e fault = subst (λ (vs : List U). Checked IsClean HasFault vs (Some f)) (sym (part i p d h e)) (checked_front (filter_map thing (p ∷ [])) (filter_map thing (drop (i + 1) ps)) f fault)

    pub picks_end : (i : ℕ) → length ps ≤ i → Checked IsClean HasFault (filter_map thing (drop i ps)) None
    picks_end i h = subst (λ (qs : List P). Checked IsClean HasFault (filter_map thing qs) None) (sym (drop_of_length-le ps h)) checked_none
