-- Which scripts the engine runs: of the program without threads every sound one.
use Rattle.std.proofs.Common.{ℕ, ◌≡◌, ◌∙◌, Bool, true, false, List, length, Ok, Err, refl, sym}
use Rattle.std.specs.Prelude.{◌&&◌, ◌==◌}
use Rattle.std.proofs.lemmas.Bool.{and_parts, eqb-true}
use Rattle.call_script.specs.declared.Script.{Script}
use Rattle.call_script.specs.declared.ScriptFault.{ScriptFault}
use Rattle.call_script.specs.Reading.{script_of, Reads}
use Rattle.call_script.specs.Sound.{IsSoundScript}
use Rattle.edl_interface.specs.declared.Interface.{Interface}
use Rattle.call_engine.specs.Plain.{has_no_workers, is_plain, not_plain, plain_script}
use Rattle.call_engine.proofs.ScriptLaws.{plain_ok, plain_err, plain_fault}

-- no pool has workers
pub no_workers : (s : Script) → is_plain s ≡ true → (s.settings.tworkers ≡ 0) × (s.settings.uworkers ≡ 0)
no_workers s e =
    let threads = and_parts (has_no_workers s.settings && length s.racers == 0) (length s.threads == 1) e in
    let workers = and_parts (has_no_workers s.settings) (length s.racers == 0) threads.0 in
    let each = and_parts (s.settings.tworkers == 0) (s.settings.uworkers == 0) workers.0 in
    (eqb-true s.settings.tworkers 0 each.0, eqb-true s.settings.uworkers 0 each.1)

-- a script of the program without threads has one thread, and nothing else
pub alone_plain : (i : Interface) (s : Script) → IsSoundScript i false s → is_plain s ≡ true
alone_plain i s h = rw (h.settings.no_trusted_workers refl, h.settings.no_untrusted_workers refl, h.threads.no_racers refl, h.threads.alone refl) refl

-- what the reader gives is what is read
module _ (i : Interface) (text : List ℕ) where
  pub read_fault : (racing : Bool) (e : ScriptFault) → Reads (script_of i racing text) (Err e) → Reads (plain_script i racing text) (Err e)
  read_fault true e h = plain_fault (script_of i true text) e h
  read_fault false e h = h

  pub read_other : (racing : Bool) (s : Script) → script_of i racing text ≡ Ok s → IsSoundScript i racing s → is_plain s ≡ false → plain_script i racing text ≡ Err not_plain
  read_other true s h sound e = plain_err (script_of i true text) s h e
  read_other false s h sound e = let both : true ≡ false = sym (alone_plain i s sound) ∙ e in absurd cc

  pub read_plainly : (racing : Bool) (s : Script) → script_of i racing text ≡ Ok s → is_plain s ≡ true → plain_script i racing text ≡ Ok s
  read_plainly true s h e = plain_ok (script_of i true text) s h e
  read_plainly false s h e = h
