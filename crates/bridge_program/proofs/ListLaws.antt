-- A list that grows by one parameter at a time.
use Rattle.std.proofs.Common.{ℕ, suc, ◌+◌, ◌≡◌, List, [], ◌∷◌, ◌++◌, length, ap, sym, ◌∙◌, arith, append-nil, append_assoc}
use Rattle.edl_interface.specs.declared.Param.{Param}
use Rattle.bridge_program.specs.declared.Instr.{Instr}
use Rattle.bridge_program.specs.Lists.{each_from}

pub each_from-more : (instrs : ℕ → Param → List Instr) (p : Param) (n k : ℕ) (ps : List Param) → k ≡ n + length ps
    → each_from n instrs (ps ++ p ∷ []) ≡ each_from n instrs ps ++ instrs k p
each_from-more instrs p n k [] e = let here : k ≡ n = omega arith in append-nil (instrs n p) ∙ ap (λ j. instrs j p) (sym here)
each_from-more instrs p n k (q ∷ ps) e =
    let later : k ≡ suc n + length ps = omega arith in
    ap (λ l. instrs n q ++ l) (each_from-more instrs p (suc n) k ps later)
    ∙ sym (append_assoc (instrs n q) (each_from (suc n) instrs ps) (instrs k p))

-- one more parameter's instructions at the end of a list
pub grows : (before list : List Instr) (k : ℕ) (instrs : ℕ → Param → List Instr) (ps : List Param) (p : Param) → k ≡ length ps → list ≡ before ++ each_from 0 instrs ps
    → list ++ instrs k p ≡ before ++ each_from 0 instrs (ps ++ p ∷ [])
grows before list k instrs ps p k_is list_is =
    let counted : k ≡ 0 + length ps = omega arith in
    ap (λ l. l ++ instrs k p) list_is
    ∙ append_assoc before (each_from 0 instrs ps) (instrs k p)
    ∙ ap (λ l. before ++ l) (sym (each_from-more instrs p 0 k ps counted))
