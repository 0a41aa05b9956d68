-- What the rules see of the lines around a line, and that they judge alike where they see the same.
use Rattle.std.proofs.Common.{ℕ, ◌≡◌, ◌+◌, ◌*◌, Bool, false, List, [], ◌∷◌, length, Option, Some, None, refl, sym, ◌∙◌, ap}
use Rattle.std.specs.Prelude.{not, ◌&&◌, ◌||◌, ◌==◌, cond, nat_lt, nat_le, map, filter_map, find, is_some, unwrap_or, sum_by, count_by}
use Rattle.std.specs.List.{list_any, last_or}
use Rattle.std.specs.Str.{bytes_eq}
use Rattle.std.proofs.lemmas.List.Sums.{sum_by-cons}
use Rattle.sgx_base.specs.Numbers.{spelled_number}
use Rattle.edl_interface.specs.declared.Interface.{Interface}
use Rattle.edl_interface.specs.Parameters.{has_frame, is_marshalled}
use Rattle.call_script.specs.Spelling.{Word, is_in_frame}
use Rattle.call_script.specs.Settings.{Setting, host, cells}
use Rattle.call_script.specs.BodyNames.{is_unknown_argument, is_wrong_pass}
use Rattle.call_script.specs.Line.{Line, Set, Foreign, Bytes, Cell, Race, Body, Handler, Thread, Call, Raw, Poke, Peek, Return, Status, Do, Temp, Ocall, Close, Register, CellNumber}
use Rattle.call_script.specs.Block.{scope_at}
use Rattle.call_script.specs.Arguments.{number_of, is_frame_argument}
use Rattle.call_script.specs.Parts.{any_part, is_unknown_name, is_no_cell, is_skip_past}
use Rattle.call_script.specs.Standing.{Standing, lines_before, whole_script, beside, setting_in, repetitions, names_at, params_of, body_function, named, is_function, has_other_count, any_argument, handled_function, is_handler, is_setting, is_act, is_action, is_thread, is_racer, is_repeat, is_race, is_temporary, set_to, body_name, handler_name, foreign_name, temporary_name, access_of, race_length, times_of}
use Rattle.call_script.specs.Faults as rule
use Rattle.call_script.specs.Faults.{row, rows, rows_of, is_left_open, is_outside_host, is_outside_host_by, hex_count, peek_count, max_threads, max_racers, max_actions, max_temporaries, max_acts, max_nesting, max_race_bytes, max_repetitions}

-- no rule tells these lines from those
pub record AreAlike (ls ks : List Line) : Type 0 where
  pub given : (which : Setting)
      → list_any (λ line. is_some (set_to which line)) ls ≡ list_any (λ line. is_some (set_to which line)) ks
  pub numbers : (which : Setting) → setting_in ls which ≡ setting_in ks which
  pub others : list_any (λ line. not (is_setting line)) ls ≡ list_any (λ line. not (is_setting line)) ks
  pub names : (name_of : Line → Option Word) → ((s : Setting) (w : Word) → name_of (Set s w) ≡ None)
      → filter_map name_of ls ≡ filter_map name_of ks
  pub accesses : filter_map access_of ls ≡ filter_map access_of ks
  pub sums : (f : Line → ℕ) → ((s : Setting) (w : Word) → f (Set s w) ≡ 0) → sum_by f ls ≡ sum_by f ks

pub same-lines : (ls ks : List Line) → ls ≡ ks → AreAlike ls ks
same-lines ls ks e = record {
  given = λ which. ap (list_any (λ line. is_some (set_to which line))) e;
  numbers = λ which. ap (λ xs. setting_in xs which) e;
  others = ap (list_any (λ line. not (is_setting line))) e;
  names = λ name_of none. ap (filter_map name_of) e;
  accesses = ap (filter_map access_of) e;
  sums = λ f zero. ap (sum_by f) e;
}

-- no rule tells where the one line stands from where the other does
pub record StandAlike (s t : Standing) : Type 0 where
  pub line : s.here.line ≡ t.here.line
  pub left : is_left_open s ≡ is_left_open t
  pub scope : scope_at s.here ≡ scope_at t.here
  pub depth : length s.here.blocks ≡ length t.here.blocks
  pub openings : map (λ b. b.opening) s.here.blocks ≡ map (λ b. b.opening) t.here.blocks
  pub repeated : repetitions s ≡ repetitions t
  pub before : AreAlike (lines_before s) (lines_before t)
  pub near : AreAlike (beside s s.before) (beside t t.before)
  pub actions : count_by is_action (beside s s.behind) ≡ count_by is_action (beside t t.behind)
  pub temporaries : filter_map temporary_name (beside s (whole_script s))
      ≡ filter_map temporary_name (beside t (whole_script t))

module _ (i : Interface) (s t : Standing) (h : StandAlike s t) where
  known : names_at i s ≡ names_at i t
  known = λ j. record { params = params_of (body_function i (h.scope j)); temporaries = h.temporaries j }

  -- ---- the rules, one by one

  set-twice : (line : Line) → rule.is_set_twice s line ≡ rule.is_set_twice t line
  set-twice (Set which number) = h.before.given which
  set-twice _ = refl

  outside : (address : Word) (count : ℕ) → is_outside_host s address count ≡ is_outside_host t address count
  outside address count =
      ap (λ size. is_outside_host_by size (spelled_number address) count) (h.before.numbers host)

  address : (line : Line) → rule.has_address_outside_host s line ≡ rule.has_address_outside_host t line
  address (Bytes at hex) = outside at (hex_count hex)
  address (Race access at hex) = outside at (hex_count hex)
  address (Poke place hex) = ap (λ r. not (is_in_frame place) && r) (outside place (hex_count hex))
  address (Peek place count) = ap (λ r. not (is_in_frame place) && r) (outside place (peek_count count))
  address _ = refl

  arguments : (line : Line) → rule.has_wrong_arguments i s line ≡ rule.has_wrong_arguments i t line
  arguments (Ocall r q name args) =
      ap (λ names. has_other_count (named i.ocalls name) args
      || any_argument (is_wrong_pass names) (named i.ocalls name) args) known
  arguments _ = refl

  name : (line : Line) → rule.has_unknown_name i s line ≡ rule.has_unknown_name i t line
  name (Do phrase) = ap (λ names. any_part (is_unknown_name names) phrase.parts) known
  name (Ocall r q function args) =
      ap (λ names. is_unknown_name names Register r || is_unknown_name names Register q
      || any_argument (is_unknown_argument names) (named i.ocalls function) args) known
  name _ = refl

  skip : (line : Line) → rule.skips_past_end s line ≡ rule.skips_past_end t line
  skip (Do phrase) = ap (λ n. any_part (is_skip_past n) phrase.parts) h.actions
  skip _ = refl

  cell : (line : Line) → rule.has_no_such_cell s line ≡ rule.has_no_such_cell t line
  cell (Cell at value) = ap (λ n. is_no_cell n CellNumber at) (h.before.numbers cells)
  cell (Do phrase) = ap (λ n. any_part (is_no_cell n) phrase.parts) (h.before.numbers cells)
  cell _ = refl

  twice : (line : Line) → rule.is_given_twice i s line ≡ rule.is_given_twice i t line
  twice (Body given) = ap (list_any (bytes_eq given)) (h.before.names body_name (λ s w. refl))
  twice (Handler given) = ap (list_any (bytes_eq given)) (h.before.names handler_name (λ s w. refl))
  twice (Foreign given size alignment) = ap (list_any (bytes_eq given)) (h.before.names foreign_name (λ s w. refl))
  twice (Temp given size) =
      let near = h.near.names temporary_name (λ s w. refl) in
      let names = known in
      λ j. list_any (bytes_eq given) (near j)
      || list_any (λ p. is_marshalled p.class && bytes_eq p.name given) (names j).params
  twice _ = refl

  unpaired : (left : Bool) (line : Line) → rule.is_unpaired left s line ≡ rule.is_unpaired left t line
  unpaired left Close = ap (λ n. n == 0) h.depth
  unpaired left _ = refl

  order : (line : Line) → rule.is_out_of_order s line ≡ rule.is_out_of_order t line
  order (Race access at hex) =
      ap (λ ns. nat_lt (number_of access) (unwrap_or (last_or None ns) 0)) h.before.accesses
  order _ = refl

  switchless : (line : Line) → rule.calls_in_switchless_handler i s line ≡ rule.calls_in_switchless_handler i t line
  switchless (Call function args) = ap (λ scope. is_function (λ f. f.switchless) (handled_function i scope)) h.scope
  switchless (Raw ordinal at) = ap (λ scope. is_function (λ f. f.switchless) (handled_function i scope)) h.scope
  switchless _ = refl

  no-frame : rule.is_without_frame i s ≡ rule.is_without_frame i t
  no-frame = ap (λ scope. not (is_function has_frame (handled_function i scope))) h.scope

  frame : (line : Line) → rule.lacks_its_frame i s line ≡ rule.lacks_its_frame i t line
  frame (Poke place hex) = ap (λ r. is_in_frame place && r) no-frame
  frame (Peek place count) = ap (λ r. is_in_frame place && r) no-frame
  frame (Call function args) = ap (λ r. list_any is_frame_argument args && r) no-frame
  frame (Return value) = ap (λ scope. not (is_function (λ f. is_some f.ret) (handled_function i scope))) h.scope
  frame (Status status) = ap (λ scope. not (is_handler scope)) h.scope
  frame _ = refl

  late : (line : Line) → rule.is_set_too_late s line ≡ rule.is_set_too_late t line
  late (Set which number) = h.before.others
  late _ = refl

  count : (kind : Line → Bool) → ((s : Setting) (w : Word) → kind (Set s w) ≡ false)
      → count_by kind (lines_before s) ≡ count_by kind (lines_before t)
  count kind none = h.before.sums (λ line. cond (kind line) 1 0) (λ s w. ap (λ t. cond t 1 0) (none s w))

  near-count : (kind : Line → Bool) → ((s : Setting) (w : Word) → kind (Set s w) ≡ false)
      → count_by kind (beside s s.before) ≡ count_by kind (beside t t.before)
  near-count kind none = h.near.sums (λ line. cond (kind line) 1 0) (λ s w. ap (λ t. cond t 1 0) (none s w))

  threads : count_by is_thread (Thread ∷ lines_before s) ≡ count_by is_thread (Thread ∷ lines_before t)
  threads =
      sum_by-cons (λ line. cond (is_thread line) 1 0) Thread (lines_before s)
      ∙ ap (λ n. 1 + n) (count is_thread (λ s w. refl))
      ∙ sym (sum_by-cons (λ line. cond (is_thread line) 1 0) Thread (lines_before t))

  many : (line : Line) → rule.is_one_too_many s line ≡ rule.is_one_too_many t line
  many line =
      let acts = count is_act (λ s w. refl) in
      let own_threads = threads in
      let racers = count is_racer (λ s w. refl) in
      let actions = near-count is_action (λ s w. refl) in
      let temporaries = near-count is_temporary (λ s w. refl) in
      let lengths = h.before.sums race_length (λ s w. refl) in
      λ j.
      (is_act line && nat_le max_acts (acts j))
      || (is_thread line && nat_le max_threads (own_threads j))
      || (is_racer line && nat_le max_racers (racers j))
      || (is_action line && nat_le max_actions (actions j))
      || (is_temporary line && nat_le max_temporaries (temporaries j))
      || (is_repeat line && nat_le max_nesting (count_by is_repeat (h.openings j)))
      || (is_repeat line && nat_lt max_repetitions (h.repeated j * times_of line))
      || (is_race line && nat_lt max_race_bytes (lengths j + race_length line))

  -- ---- all of them

  same-rows : (racing left : Bool) (line : Line) → rows i racing left s line ≡ rows i racing left t line
  same-rows racing left line =
      let r3 = set-twice line in
      let r4 = address line in
      let r6 = arguments line in
      let r8 = name line in
      let r9 = skip line in
      let r10 = cell line in
      let r11 = twice line in
      let r12 = unpaired left line in
      let r13 = order line in
      let r15 = switchless line in
      let r16 = many line in
      let r19 = frame line in
      let r20 = late line in
      λ j.
      row 1 (rule.is_not_understood line)
      ∷ row 2 (rule.has_number_out_of_range line)
      ∷ row 3 (r3 j)
      ∷ row 4 (r4 j)
      ∷ row 5 (rule.has_unknown_function i line)
      ∷ row 6 (r6 j)
      ∷ row 7 (rule.has_misfit i line)
      ∷ row 8 (r8 j)
      ∷ row 9 (r9 j)
      ∷ row 10 (r10 j)
      ∷ row 11 (r11 j)
      ∷ row 12 (r12 j)
      ∷ row 13 (r13 j)
      ∷ row 14 (rule.is_for_other_program racing line)
      ∷ row 15 (r15 j)
      ∷ row 16 (r16 j)
      ∷ row 18 (rule.has_bad_hex i line)
      ∷ row 19 (r19 j)
      ∷ row 20 (r20 j)
      ∷ []

  rows-of : (racing left : Bool) (o : Option Line) → rows_of i racing left s o ≡ rows_of i racing left t o
  rows-of racing left None = refl
  rows-of racing left (Some line) = same-rows racing left line

  -- the first rule that the line breaks
  pub same-broken : (racing : Bool)
      → find (λ r. r.broken) (rows_of i racing (is_left_open s) s s.here.line)
      ≡ find (λ r. r.broken) (rows_of i racing (is_left_open t) t t.here.line)
  same-broken racing =
      ap (find (λ r. r.broken)) (rows-of racing (is_left_open s) s.here.line)
      ∙ (λ j. find (λ r. r.broken) (rows_of i racing (h.left j) t (h.line j)))
