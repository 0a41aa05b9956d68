-- The lines of a bridge, in three ways.
use Rattle.std.proofs.Common.{ℕ, ◌≡◌, Bool, true, false, List, [], ◌∷◌, ◌++◌, Some, refl, ap, sym, ◌∙◌, append_assoc, append-nil}
use Rattle.std.specs.Prelude.{not, if◌then◌else◌, slice_get, is_some, codes}
use Rattle.std.specs.List.{list_any}
use Rattle.edl_grammar.specs.declared.Declared.{Declared}
use Rattle.edl_grammar.specs.declared.FuncDecl.{FuncDecl}
use Rattle.edl_interface.specs.declared.Interface.{Interface}
use Rattle.edl_interface.specs.declared.Function.{Function}
use Rattle.edl_interface.specs.declared.Param.{Param}
use Rattle.edl_interface.specs.Parameters.{is_marshalled, is_out, has_frame}
use Rattle.bridge_program.specs.declared.Instr.{Instr}
use Rattle.bridge_program.specs.declared.Instr.TheVariants.{Begin, NoFrame, Frame, Length, Outside, Fence, Call, PutReturn, CopyOut, End}
use Rattle.bridge_program.specs.Lists.{each, where_is, once, any_marshalled, entry_of, ecall_list}
use Rattle.bridge_program.specs.Tables.{bridges_of}
use Rattle.bridge_text.specs.Bridges.{instr_text, list_text, call_lines, copy_out_lines}
use Rattle.stub_printer.specs.Stubs.{listed_text}
use Rattle.stub_laws.specs.Words.{names, author_names}
use Rattle.stub_laws.specs.Laws.{Stands, ReadsFrameOnce, ChecksPointersFirst, CopiesBackAfterCall, IsAt, copies_frame, puts_return, checks_pointer, writes_back}
use Rattle.stub_laws.proofs.TemplateLaws.{silent_text}
use Rattle.stub_laws.proofs.ExpressionLaws.{IsApart}
use Rattle.stub_laws.proofs.InstructionLaws.{is_check, is_quiet, silent_check, silent_quiet, memcpy_is_apart, strlen_is_apart, wcslen_is_apart}
use Rattle.stub_laws.proofs.ListLaws.{text_append, silent_list, none_both, none_from, none_if, none_where, none_entry, stands_in_append, stands_before, stands_where, listed}

-- ---- the parts of a list

abbrev pub starts : Function → List Instr
starts function = Begin ∷ (if has_frame function then Frame else NoFrame) ∷ []

abbrev pub lengths : Function → List Instr
lengths function = where_is is_marshalled Length function

abbrev pub checks : Function → List Instr
checks function = where_is is_marshalled Outside function

abbrev pub fence : Function → List Instr
fence function = once (any_marshalled function) Fence

abbrev pub returns : Function → List Instr
returns function = once (is_some function.ret) PutReturn

abbrev pub copies_out : Function → List Instr
copies_out function = where_is is_out CopyOut function

-- by what stands behind the copy of the frame, and around the return
by_return : (a l o f e : List Instr) (c : Instr) (r s z : List Instr)
    → a ++ l ++ o ++ f ++ e ++ (c ∷ r) ++ s ++ z ≡ a ++ (l ++ o ++ f ++ e ++ c ∷ []) ++ r ++ (s ++ z)
by_return a l o f e c r s z = simp append_assoc

by_checks : (a l o f e : List Instr) (c : Instr) (r s z : List Instr)
    → a ++ l ++ o ++ f ++ e ++ (c ∷ r) ++ s ++ z ≡ a ++ (l ++ o) ++ (f ++ e ++ (c ∷ r) ++ s ++ z)
by_checks a l o f e c r s z = simp append_assoc

by_call : (a l o f e : List Instr) (c : Instr) (r s z : List Instr)
    → a ++ l ++ o ++ f ++ e ++ (c ∷ r) ++ s ++ z ≡ (a ++ l ++ o ++ f ++ e) ++ c ∷ (r ++ s ++ z)
by_call a l o f e c r s z = simp append_assoc

starts_text : (f : FuncDecl) (function : Function) (o : ℕ) → has_frame function ≡ true → list_text f o (starts function) ≡ copies_frame f
starts_text f function o h = rw h (ap (λ l. instr_text f o Begin ++ l) (append-nil (instr_text f o Frame)))

returns_text : (f : FuncDecl) (o : ℕ) (t : Bool) → list_text f o (once t PutReturn) ≡ (if t then puts_return f else [])
returns_text f o true = append-nil (puts_return f)
returns_text f o false = refl

is_so : (t : Bool) → not t ≡ false → t ≡ true
is_so true h = refl
is_so false h = absurd (cc)

-- ---- the frame is read once

abbrev is_loud : Instr → Bool
is_loud i = not (is_quiet i)

quiet_of : (i : Instr) → is_loud i ≡ false → is_quiet i ≡ true
quiet_of i h = is_so (is_quiet i) h

none_loud : (function : Function) → list_any is_loud (lengths function ++ checks function ++ fence function ++ each entry_of function ++ Call ∷ []) ≡ false
none_loud function =
    none_both is_loud (lengths function ++ checks function ++ fence function ++ each entry_of function) (Call ∷ [])
    (none_both is_loud (lengths function ++ checks function ++ fence function) (each entry_of function)
    (none_both is_loud (lengths function ++ checks function) (fence function)
    (none_both is_loud (lengths function) (checks function)
    (none_where is_loud is_marshalled Length function (λ n. refl))
    (none_where is_loud is_marshalled Outside function (λ n. refl)))
    (none_if is_loud (any_marshalled function) Fence refl))
    (none_from is_loud entry_of 0 function.params (none_entry is_loud (λ n. refl) (λ n. refl) (λ n. refl) (λ n. refl) (λ n. refl))))
    refl

none_loud_after : (function : Function) → list_any is_loud (copies_out function ++ End ∷ []) ≡ false
none_loud_after function = none_both is_loud (copies_out function) (End ∷ []) (none_where is_loud is_out CopyOut function (λ n. refl)) refl

three_texts : (f : FuncDecl) (o : ℕ) (a b c d : List Instr)
    → list_text f o (a ++ b ++ c ++ d) ≡ list_text f o a ++ list_text f o b ++ list_text f o c ++ list_text f o d
three_texts f o a b c d =
    text_append f o (a ++ b ++ c) d
    ∙ ap (λ l. l ++ list_text f o d) (text_append f o (a ++ b) c ∙ ap (λ l. l ++ list_text f o c) (text_append f o a b))

quiet_text : (f : FuncDecl) (o : ℕ) (list : List Instr) → author_names (codes "pms") f ≡ false → list_any is_loud list ≡ false
    → names (codes "pms") (list_text f o list) ≡ false
quiet_text f o list h k =
    silent_text (codes "pms") (list_text f o list) refl
    (silent_list (codes "pms") f o is_loud list (λ i l. silent_quiet f o i h (quiet_of i l)) k)

pub reads_frame_once : (i : Interface) (f : FuncDecl) (function : Function) (o : ℕ) → slice_get i.ecalls o ≡ Some function → has_frame function ≡ true
    → author_names (codes "pms") f ≡ false → ReadsFrameOnce (is_some function.ret) f (listed_text (bridges_of i) true o f)
reads_frame_once i f function o at framed h =
    let before = lengths function ++ checks function ++ fence function ++ each entry_of function ++ Call ∷ [] in
    let after = copies_out function ++ End ∷ [] in
    record {
      before = list_text f o before;
      after = list_text f o after;
      lines =
          listed i f function o at
          ∙ ap (list_text f o) (by_return (starts function) (lengths function) (checks function) (fence function) (each entry_of function) Call (returns function) (copies_out function) (End ∷ []))
          ∙ three_texts f o (starts function) before (returns function) after
          ∙ ap (λ l. l ++ list_text f o before ++ list_text f o (returns function) ++ list_text f o after) (starts_text f function o framed)
          ∙ ap (λ l. copies_frame f ++ list_text f o before ++ l ++ list_text f o after) (returns_text f o (is_some function.ret));
      not_before = quiet_text f o before h (none_loud function);
      not_after = quiet_text f o after h (none_loud_after function);
    }

-- ---- pointers are checked first

abbrev is_other : Instr → Bool
is_other i = not (is_check i)

check_text : (w : List ℕ) (f : FuncDecl) (o : ℕ) (function : Function) → IsApart w → author_names w f ≡ false
    → names w (list_text f o (lengths function ++ checks function)) ≡ false
check_text w f o function a h =
    silent_text w (list_text f o (lengths function ++ checks function)) a.some
    (silent_list w f o is_other (lengths function ++ checks function) (λ i l. silent_check w f o i a h (is_so (is_check i) l))
    (none_both is_other (lengths function) (checks function)
    (none_where is_other is_marshalled Length function (λ n. refl))
    (none_where is_other is_marshalled Outside function (λ n. refl))))

two_texts : (f : FuncDecl) (o : ℕ) (a b c : List Instr) → list_text f o (a ++ b ++ c) ≡ list_text f o a ++ list_text f o b ++ list_text f o c
two_texts f o a b c = text_append f o (a ++ b) c ∙ ap (λ l. l ++ list_text f o c) (text_append f o a b)

check_stands : (f : FuncDecl) (function : Function) (o n : ℕ) (q : Param) (p : Declared) → IsAt function.params f.params n q p → is_marshalled q.class ≡ true
    → Stands (checks_pointer p) (list_text f o (lengths function ++ checks function))
check_stands f function o n q p at h =
    rw (text_append f o (lengths function) (checks function))
    (stands_in_append (checks_pointer p) (list_text f o (lengths function)) (list_text f o (checks function))
    (rw at.declared_as at (stands_where f o is_marshalled Outside function n q at.param h)))

pub checks_pointers_first : (i : Interface) (f : FuncDecl) (function : Function) (o : ℕ) → slice_get i.ecalls o ≡ Some function → has_frame function ≡ true
    → author_names (codes "memcpy") f ≡ false → author_names (codes "strlen") f ≡ false → author_names (codes "wcslen") f ≡ false
    → ChecksPointersFirst function f (listed_text (bridges_of i) true o f)
checks_pointers_first i f function o at framed h k l =
    let rest = fence function ++ each entry_of function ++ (Call ∷ returns function) ++ copies_out function ++ End ∷ [] in
    record {
      checks = list_text f o (lengths function ++ checks function);
      rest = list_text f o rest;
      lines =
          listed i f function o at
          ∙ ap (list_text f o) (by_checks (starts function) (lengths function) (checks function) (fence function) (each entry_of function) Call (returns function) (copies_out function) (End ∷ []))
          ∙ two_texts f o (starts function) (lengths function ++ checks function) rest
          ∙ ap (λ l. l ++ list_text f o (lengths function ++ checks function) ++ list_text f o rest) (starts_text f function o framed);
      no_copy = check_text (codes "memcpy") f o function memcpy_is_apart h;
      no_narrow_length = check_text (codes "strlen") f o function strlen_is_apart k;
      no_wide_length = check_text (codes "wcslen") f o function wcslen_is_apart l;
      each = λ n q p at m. check_stands f function o n q p at m;
    }

-- ---- what is copied back

none_written : (function : Function) → list_any writes_back (starts function ++ lengths function ++ checks function ++ fence function ++ each entry_of function) ≡ false
none_written function =
    none_both writes_back (starts function ++ lengths function ++ checks function ++ fence function) (each entry_of function)
    (none_both writes_back (starts function ++ lengths function ++ checks function) (fence function)
    (none_both writes_back (starts function ++ lengths function) (checks function)
    (none_both writes_back (starts function) (lengths function)
    (begin (has_frame function))
    (none_where writes_back is_marshalled Length function (λ n. refl)))
    (none_where writes_back is_marshalled Outside function (λ n. refl)))
    (none_if writes_back (any_marshalled function) Fence refl))
    (none_from writes_back entry_of 0 function.params (none_entry writes_back (λ n. refl) (λ n. refl) (λ n. refl) (λ n. refl) (λ n. refl)))
  where
    begin : (t : Bool) → list_any writes_back (Begin ∷ (if t then Frame else NoFrame) ∷ []) ≡ false
    begin true = refl
    begin false = refl

call_text : (f : FuncDecl) (o : ℕ) (a b : List Instr) → list_text f o (a ++ Call ∷ b) ≡ list_text f o a ++ call_lines f ++ list_text f o b
call_text f o a b = text_append f o a (Call ∷ b) ∙ sym (append_assoc (list_text f o a) (call_lines f) (list_text f o b))

copy_stands : (f : FuncDecl) (function : Function) (o n : ℕ) (q : Param) (p : Declared) → IsAt function.params f.params n q p → is_out q.class ≡ true
    → Stands (copy_out_lines p) (list_text f o (returns function ++ copies_out function ++ End ∷ []))
copy_stands f function o n q p at h =
    rw (text_append f o (returns function ++ copies_out function) (End ∷ []), text_append f o (returns function) (copies_out function))
    (stands_before (copy_out_lines p) (list_text f o (returns function) ++ list_text f o (copies_out function)) (list_text f o (End ∷ []))
    (stands_in_append (copy_out_lines p) (list_text f o (returns function)) (list_text f o (copies_out function))
    (rw at.declared_as at (stands_where f o is_out CopyOut function n q at.param h))))

pub copies_back_after_call : (i : Interface) (f : FuncDecl) (function : Function) (o : ℕ) → slice_get i.ecalls o ≡ Some function
    → CopiesBackAfterCall function f o (listed_text (bridges_of i) true o f)
copies_back_after_call i f function o at =
    let before = starts function ++ lengths function ++ checks function ++ fence function ++ each entry_of function in
    let after = returns function ++ copies_out function ++ End ∷ [] in
    let parts : ecall_list function ≡ before ++ Call ∷ after =
    by_call (starts function) (lengths function) (checks function) (fence function) (each entry_of function) Call (returns function) (copies_out function) (End ∷ []) in
    record {
      before = before;
      after = after;
      list = parts;
      none_before = none_written function;
      lines = listed i f function o at ∙ ap (list_text f o) parts ∙ call_text f o before after;
      each = λ n q p at m. copy_stands f function o n q p at m;
    }
