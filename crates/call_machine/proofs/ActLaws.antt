-- A repeat as the code sees it, over a list of acts.
use Rattle.std.proofs.Common.{ℕ, ◌≡◌, List, refl, ap, ◌∙◌}
use Rattle.sgx_base.specs.declared.Status.{Status}
use Rattle.call_script.specs.declared.HostAct.{HostAct, Repeat, Row_of-HostAct, end_of-HostAct, more_of-HostAct, items-the_row-HostAct, items_hidden-the_row-HostAct-0}
use Rattle.call_script.specs.declared.HostAct.TheBlock.{hidden-the_row-HostAct-0}
use Rattle.call_machine.specs.Acts.{Actor, act_of, row_of, acts_from, then_acts, repeat}
use std.Path.{fun_ext}

row_is : {n : _} (actor : Actor) (row : Row_of-HostAct n) (status : Status) → row_of actor row status ≡ acts_from actor (items-the_row-HostAct _ row) status
row_is actor end_of-HostAct status = refl
row_is actor (more_of-HostAct act rest) status = ap (λ f. then_acts (act_of actor act status) f) (fun_ext (λ s. row_is actor rest s))

-- a repeat does its acts so many times
pub repeat_is : (actor : Actor) (times : ℕ) (acts : List HostAct) (status : Status) → act_of actor (Repeat times acts) status ≡ repeat times (acts_from actor acts) status
repeat_is actor times acts status =
    ap (λ f. repeat times f status) (fun_ext (λ s. row_is actor (hidden-the_row-HostAct-0 acts) s ∙ ap (λ l. acts_from actor l s) (items_hidden-the_row-HostAct-0 acts)))
