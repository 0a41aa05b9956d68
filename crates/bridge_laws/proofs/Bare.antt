-- The list of the proxy of an OCALL without a frame does what the OCALL is defined to do.
use Rattle.std.proofs.Common.{ℕ, suc, arith, ◌≡◌, ◌==◌, ◌||◌, not, Bool, true, false, List, [], ◌∷◌, length, Option, Some, None, is_some, Ok, refl, ap, sym, ◌∙◌, subst}
use Rattle.std.proofs.lemmas.Bool.{eqb-true}
use Rattle.edl_interface.specs.declared.Plain.{Plain}
use Rattle.edl_interface.specs.declared.Param.{Param}
use Rattle.edl_interface.specs.declared.Function.{Function}
use Rattle.edl_interface.specs.Parameters.{has_frame}
use Rattle.word_port.specs.Interaction.{Interaction, ret, and_then, map_value}
use Rattle.word_port.proofs.Laws.{and_then-assoc}
use Rattle.enclave_memory.specs.Arguments.{Argument}
use Rattle.ocall_frames.specs.Frames.{read_reply}
use Rattle.call_machine.specs.declared.Machine.{Machine}
use Rattle.call_machine.specs.Context.{Context}
use Rattle.call_machine.specs.Result.{is_success}
use Rattle.call_machine.specs.Ocall.{Handlers, HostSide, host_run, handler_context, answer_loads, ocall_or_refusal}
use Rattle.bridge_program.specs.declared.Instr.TheVariants.{OBegin, OEnter, OEnd}
use Rattle.bridge_program.specs.Lists.{ocall_list}
use Rattle.bridge_laws.specs.Proxy.{begun_answer, first_proxy, done_of, ocall_by_list}
use Rattle.bridge_laws.proofs.Trees.{same_next, ok-ret}

-- the function without parameters, return and bytes of a frame
abbrev pub bared : Function → Function
bared f = record f { params = []; ret = None; frame_size = 0 }

is_zero : (c b : Bool) → (not c || b) ≡ false → c ≡ true
is_zero true b e = refl
is_zero false b e = let no : ⊥ = cc in absurd no

no_params : (ps : List Param) (b : Bool) → (not (length ps == 0) || b) ≡ false → ps ≡ []
no_params [] b e = refl
no_params (p ∷ ps) b e = let none : suc (length ps) ≡ 0 = eqb-true (length (p ∷ ps)) 0 (is_zero (length (p ∷ ps) == 0) b e) in absurd (omega arith)

no_return : (b : Bool) (o : Option Plain) → (b || is_some o) ≡ false → o ≡ None
no_return b None e = refl
no_return true (Some r) e = let no : ⊥ = cc in absurd no
no_return false (Some r) e = let no : ⊥ = cc in absurd no

pub is_bared : (f : Function) → has_frame f ≡ false → f.frame_size ≡ 0 → f ≡ bared f
is_bared f e z =
    ap (λ (ps : List Param). record f { params = ps }) (no_params f.params (is_some f.ret) e)
    ∙ ap (λ (o : Option Plain). record f { params = []; ret = o }) (no_return (not (length f.params == 0)) f.ret e)
    ∙ ap (λ (n : ℕ). record f { params = []; ret = None; frame_size = n }) z

module _ (m : Machine) (handlers : Handlers) (cx : Context) (ordinal : ℕ) (arguments : List Argument) where
  bare_answer : (f : Function) (host : HostSide) (b : Bool) → is_success host.status ≡ b
      → map_value done_of (begun_answer first_proxy host) ≡ map_value (λ done. Ok done) (answer_loads (bared f) arguments 0 host)
  unfolding read_reply
  bare_answer f host true e = simp e
  bare_answer f host false e = simp e

  bare_does : (f : Function) → ocall_by_list m handlers cx ordinal arguments (bared f) (OBegin ∷ OEnter ∷ OEnd ∷ []) ≡ ocall_or_refusal m handlers cx ordinal arguments (Some (bared f))
  bare_does f =
      let running : Interaction HostSide = host_run m handlers (handler_context cx ordinal (bared f) 0) ordinal (bared f) 0 in
      ap (λ t. map_value done_of t) (ok-ret (and_then running (begun_answer first_proxy)))
      ∙ and_then-assoc running (begun_answer first_proxy) (λ r. ret (done_of r))
      ∙ same_next running (λ host. map_value done_of (begun_answer first_proxy host)) (λ host. map_value (λ done. Ok done) (answer_loads (bared f) arguments 0 host))
      (λ host. bare_answer f host (is_success host.status) refl)
      ∙ sym (and_then-assoc running (answer_loads (bared f) arguments 0) (λ done. ret (Ok done)))

  pub bare_is_ocall : (f : Function) → has_frame f ≡ false → f.frame_size ≡ 0
      → ocall_by_list m handlers cx ordinal arguments f (ocall_list f) ≡ ocall_or_refusal m handlers cx ordinal arguments (Some f)
  bare_is_ocall f e z = subst (λ (g : Function). ocall_by_list m handlers cx ordinal arguments g (ocall_list g) ≡ ocall_or_refusal m handlers cx ordinal arguments (Some g)) (sym (is_bared f e z)) (bare_does f)
