-- A sound repeat, as the code sees it, over a list of acts.
use Rattle.std.proofs.Common.{ℕ, ◌≡◌, ◌-◌, ◌*◌, List, refl, ap, ◌∙◌}
use Rattle.edl_interface.specs.declared.Interface.{Interface}
use Rattle.call_script.specs.declared.HostAct.{HostAct, Repeat, Row_of-HostAct, end_of-HostAct, more_of-HostAct, items-the_row-HostAct, items_hidden-the_row-HostAct-0}
use Rattle.call_script.specs.declared.HostAct.TheBlock.{hidden-the_row-HostAct-0}
use Rattle.call_script.specs.Sound.{Actor, IsSoundAct, AreSoundInRow, AreSoundActsIn, IsSoundRepeat}

module _ (i : Interface) (size : ℕ) (who : Actor) where
  row_is : {n : _} (row : Row_of-HostAct n) (nesting around : ℕ)
      → AreSoundInRow i size who row nesting around ≡ AreSoundActsIn i size who (items-the_row-HostAct _ row) nesting
      around
  row_is end_of-HostAct nesting around = refl
  row_is (more_of-HostAct act rest) nesting around =
      ap (λ P. IsSoundAct i size who act nesting around × P) (row_is rest nesting around)

  -- a repeat is sound where its count is, and the acts in it are
  pub IsSoundAct-Repeat : (times : ℕ) (acts : List HostAct) (nesting around : ℕ)
      → IsSoundAct i size who (Repeat times acts) nesting around ≡ (IsSoundRepeat i size who nesting around times
      × AreSoundActsIn i size who acts (nesting - 1) (around * times))
  IsSoundAct-Repeat times acts nesting around =
      ap (λ P. IsSoundRepeat i size who nesting around times × P)
      (row_is (hidden-the_row-HostAct-0 acts) (nesting - 1) (around * times)
      ∙ ap (λ l. AreSoundActsIn i size who l (nesting - 1) (around * times)) (items_hidden-the_row-HostAct-0 acts))
