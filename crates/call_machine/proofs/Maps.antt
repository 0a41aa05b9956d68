-- What holds of a success or of an error, turned into another.
use Rattle.std.proofs.Common.{IfOk, IfErr, OnOk, Result, Ok, Err}

pub ok_maps : {T E : Type 0} (r : Result T E) (P Q : T → Type 0) → ((x : T) → P x → Q x) → IfOk r P → IfOk r Q
ok_maps (Ok x) P Q f p = f x p
ok_maps (Err e) P Q f p = tt

pub err_maps : {T E : Type 0} (r : Result T E) (P Q : E → Type 0) → ((e : E) → P e → Q e) → IfErr r P → IfErr r Q
err_maps (Ok x) P Q f p = tt
err_maps (Err e) P Q f p = f e p

-- two facts of a success
pub ok_both : {T E : Type 0} (r : Result T E) (P R : T → Type 0) (Q : Type 0) → ((x : T) → P x → Q → R x) → IfOk r P → OnOk r Q → IfOk r R
ok_both (Ok x) P R Q f p q = f x p q
ok_both (Err e) P R Q f p q = tt

-- and of a success with no value
pub on_ok_maps : {E : Type 0} (r : Result (Unit {0}) E) (P Q : Type 0) → (P → Q) → OnOk r P → OnOk r Q
on_ok_maps (Ok u) P Q f p = f p
on_ok_maps (Err e) P Q f p = tt

pub on_ok_both : {E : Type 0} (r : Result (Unit {0}) E) (P Q R : Type 0) → (P → Q → R) → OnOk r P → OnOk r Q → OnOk r R
on_ok_both (Ok u) P Q R f p q = f p q
on_ok_both (Err e) P Q R f p q = tt
