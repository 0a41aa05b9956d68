-- The lengths of strings, found unit by unit, and those of all arguments, one after another.
use Rattle.std.proofs.Common.{ℕ, zero, suc, ◌+◌, ◌-◌, ◌*◌, ◌<◌, ◌≤◌, ◌≡◌, ◌⊎◌, ◌==◌, ◌&&◌, ◌||◌, nat_le, Bool, true, false, IsTrue, if◌then◌else◌, leb-true, eqb-true, List, [], ◌∷◌, ◌++◌, length, take, drop, zip, slice_set, slice_get, Some, refl, ap, sym, ◌∙◌, subst, inl, inr, append_assoc, append-nil, arith}
use Rattle.std.proofs.lemmas.Bool.{and_parts}
use Rattle.std.proofs.lemmas.List.{take_more_set}
use Rattle.sgx_base.specs.Ranges.{host_start, is_mapped}
use Rattle.sgx_base.specs.Texts.{is_zero_unit}
use Rattle.edl_interface.specs.declared.Param.{Param}
use Rattle.word_port.specs.declared.Side.TheVariants.{Host}
use Rattle.word_port.specs.Port.{PortState}
use Rattle.word_port.specs.Interaction.{Interaction, ret, and_then, map_value}
use Rattle.word_port.specs.Accesses.{loads}
use Rattle.word_port.specs.Runs.{Leads, Makes, StopsFull}
use Rattle.word_port.proofs.Laws.{and_then-assoc, and_then-ret, leads_nothing, leads_on, leads_first, leads_then, full_on, full_first}
use Rattle.call_script.specs.declared.CallArg.{CallArg}
use Rattle.call_machine.specs.Calls.{IsUnitSeen, string_loads, string_length, string_lengths}
use Rattle.call_machine.proofs.HostFrames.{drop_at, drop_past}
use std.Path.{fun_ext}

-- the units of the string at an address up to the next one were loaded, and none of them is 0
pub record IsSearched (host unit at next : ℕ) (old now : PortState) : Type 0 where
  pub count : ℕ
  pub place : next ≡ at + count * unit
  pub size : next - at ≤ host
  pub above : at ≤ next
  pub from : host_start ≤ next → host_start ≤ at
  pub leads : Leads (string_loads host host unit at) old now (map_value (λ n. n + count * unit) (string_loads (host - count) host unit next))

-- before the first unit
pub searched_none : (host unit at : ℕ) (now : PortState) → IsSearched host unit at at now now
searched_none host unit at now =
    let same : (n : ℕ) → n ≡ n + 0 * unit = λ n. omega arith in
    let all : string_loads host host unit at ≡ map_value (λ n. n + 0 * unit) (string_loads (host - 0) host unit at) =
    sym (and_then-ret (string_loads host host unit at)) ∙ ap (λ f. map_value f (string_loads host host unit at)) (fun_ext same) ∙ ap (λ k. map_value (λ n. n + 0 * unit) (string_loads k host unit at)) (let e : host ≡ host - 0 = omega arith in e) in
    record {
      count = 0;
      place = omega arith;
      size = omega arith;
      above = omega arith;
      from = λ h. h;
      leads = subst (λ t. Leads (string_loads host host unit at) now now t) all (leads_nothing (string_loads host host unit at) now);
    }

-- what follows a unit that was loaded
abbrev after_unit : ℕ → ℕ → ℕ → ℕ → List ℕ → Interaction ℕ
after_unit fuel host unit next bytes = if is_zero_unit bytes then ret unit else map_value (λ n. n + unit) (string_loads fuel host unit (next + unit))

-- a unit that is not mapped ends the string
unmapped_is : (fuel host unit next : ℕ) → is_mapped host next unit ≡ false → string_loads fuel host unit next ≡ ret unit
unmapped_is zero host unit next e = refl
unmapped_is (suc fuel) host unit next e = ap (λ b. if b then and_then (loads Host next unit) (after_unit fuel host unit next) else ret unit) e

mapped_is : (fuel host unit next : ℕ) → is_mapped host next unit ≡ true → string_loads (suc fuel) host unit next ≡ and_then (loads Host next unit) (after_unit fuel host unit next)
mapped_is fuel host unit next e = ap (λ b. if b then and_then (loads Host next unit) (after_unit fuel host unit next) else ret unit) e

-- the loads of one more unit
unit_loaded : (fuel host unit next past : ℕ) (bytes : List ℕ) (now new : PortState) → is_mapped host next unit ≡ true → Makes (loads Host next unit) now new bytes
    → Leads (map_value (λ n. n + past) (string_loads (suc fuel) host unit next)) now new (map_value (λ n. n + past) (after_unit fuel host unit next bytes))
unit_loaded fuel host unit next past bytes now new e made =
    subst (λ t. Leads (map_value (λ n. n + past) t) now new (map_value (λ n. n + past) (after_unit fuel host unit next bytes))) (sym (mapped_is fuel host unit next e))
    (leads_first (and_then (loads Host next unit) (after_unit fuel host unit next)) (after_unit fuel host unit next bytes) (λ n. ret (n + past)) now new
    (leads_then (loads Host next unit) (after_unit fuel host unit next) (after_unit fuel host unit next bytes) now new new bytes made (leads_nothing (after_unit fuel host unit next bytes) new)))

-- after a unit that is not 0
unit_passed : (fuel host unit next count : ℕ) (bytes : List ℕ) → is_zero_unit bytes ≡ false
    → map_value (λ n. n + count * unit) (after_unit fuel host unit next bytes) ≡ map_value (λ n. n + (count + 1) * unit) (string_loads fuel host unit (next + unit))
unit_passed fuel host unit next count bytes e =
    let rest : Interaction ℕ = string_loads fuel host unit (next + unit) in
    let same : (n : ℕ) → (n + unit) + count * unit ≡ n + (count + 1) * unit = λ n. omega arith in
    ap (λ b. map_value (λ n. n + count * unit) (if b then ret unit else map_value (λ n. n + unit) rest)) e
    ∙ and_then-assoc rest (λ n. ret (n + unit)) (λ n. ret (n + count * unit))
    ∙ ap (λ f. map_value f rest) (fun_ext same)

-- units are left where the next one is mapped
units_left : (host unit at next count : ℕ) → 1 ≤ unit → next ≡ at + count * unit → host_start ≤ at → next + unit ≤ host_start + host → host - count ≡ suc (host - (count + 1))
units_left host zero at next count some place from upto = absurd (omega (arith, some))
units_left host (suc u) at next count some place from upto =
    let e : count * suc u ≡ count + count * u = omega arith in
    omega (arith, e, place, from, upto)

or_parts : (x y : Bool) → IsTrue (x || y) → IsTrue x ⊎ IsTrue y
or_parts true y h = inl refl
or_parts false y h = inr h

-- where some bytes are mapped they are within host memory
pub mapped_bounds : (host at n : ℕ) → 1 ≤ n → is_mapped host at n ≡ true → (host_start ≤ at) × (at + n ≤ host_start + host)
mapped_bounds host at n some e = by_parts (or_parts (n == 0) (nat_le host_start at && nat_le (at + n) (host_start + host)) e)
  where
    by_parts : IsTrue (n == 0) ⊎ IsTrue (nat_le host_start at && nat_le (at + n) (host_start + host)) → (host_start ≤ at) × (at + n ≤ host_start + host)
    by_parts (inl p) = let none : n ≡ 0 = eqb-true n 0 p in absurd (omega (arith, none, some))
    by_parts (inr p) =
        let parts : IsTrue (nat_le host_start at) × IsTrue (nat_le (at + n) (host_start + host)) = and_parts (nat_le host_start at) (nat_le (at + n) (host_start + host)) p in
        (leb-true host_start at parts.0, leb-true (at + n) (host_start + host) parts.1)

module _ (host unit at next : ℕ) (old now : PortState) (p : IsSearched host unit at next old now) (some : 1 ≤ unit) where
  -- the next unit is not in host memory
  searched_end : is_mapped host next unit ≡ false → Makes (string_loads host host unit at) old now ((next - at) + unit)
  searched_end e =
      let place : next ≡ at + p.count * unit = p.place in
      let value : unit + p.count * unit ≡ (next - at) + unit = omega (arith, place) in
      subst (λ t. Leads (string_loads host host unit at) old now t)
      (ap (λ t. map_value (λ n. n + p.count * unit) t) (unmapped_is (host - p.count) host unit next e) ∙ ap (λ n. ret n) value) p.leads

  module _ (mapped : is_mapped host next unit ≡ true) (from : host_start ≤ next) (upto : next + unit ≤ host_start + host) where
    left : host - p.count ≡ suc (host - (p.count + 1))
    left = units_left host unit at next p.count some p.place (p.from from) upto

    wanted : Leads (string_loads host host unit at) old now (map_value (λ n. n + p.count * unit) (string_loads (suc (host - (p.count + 1))) host unit next))
    wanted = subst (λ k. Leads (string_loads host host unit at) old now (map_value (λ n. n + p.count * unit) (string_loads k host unit next))) left p.leads

    -- the log is full in the next unit
    searched_full : (new : PortState) → StopsFull (loads Host next unit) now new → StopsFull (string_loads host host unit at) old new
    searched_full new stopped =
        full_on (string_loads host host unit at) (map_value (λ n. n + p.count * unit) (string_loads (suc (host - (p.count + 1))) host unit next)) old now new wanted
        (subst (λ t. StopsFull (map_value (λ n. n + p.count * unit) t) now new) (sym (mapped_is (host - (p.count + 1)) host unit next mapped))
        (full_first (and_then (loads Host next unit) (after_unit (host - (p.count + 1)) host unit next)) (λ n. ret (n + p.count * unit)) now new
        (full_first (loads Host next unit) (after_unit (host - (p.count + 1)) host unit next) now new stopped)))

    module _ (bytes : List ℕ) (new : PortState) (made : Makes (loads Host next unit) now new bytes) where
      loaded : Leads (string_loads host host unit at) old new (map_value (λ n. n + p.count * unit) (after_unit (host - (p.count + 1)) host unit next bytes))
      loaded =
          leads_on (string_loads host host unit at) (map_value (λ n. n + p.count * unit) (string_loads (suc (host - (p.count + 1))) host unit next)) (map_value (λ n. n + p.count * unit) (after_unit (host - (p.count + 1)) host unit next bytes)) old now new wanted
          (unit_loaded (host - (p.count + 1)) host unit next (p.count * unit) bytes now new mapped made)

      -- the next unit is 0
      searched_found : is_zero_unit bytes ≡ true → Makes (string_loads host host unit at) old new ((next - at) + unit)
      searched_found e =
          let place : next ≡ at + p.count * unit = p.place in
          let value : unit + p.count * unit ≡ (next - at) + unit = omega (arith, place) in
          subst (λ t. Leads (string_loads host host unit at) old new t)
          (ap (λ b. map_value (λ n. n + p.count * unit) (if b then ret unit else map_value (λ n. n + unit) (string_loads (host - (p.count + 1)) host unit (next + unit)))) e ∙ ap (λ n. ret n) value) loaded

      -- the next unit is not 0
      searched_more : is_zero_unit bytes ≡ false → IsSearched host unit at (next + unit) old new
      searched_more e =
          let place : next ≡ at + p.count * unit = p.place in
          let begun : host_start ≤ at = p.from from in
          record {
            count = p.count + 1;
            place = omega (arith, place);
            size = omega (arith, begun, upto);
            above = let h : at ≤ next = p.above in omega (arith, h);
            from = λ h. begun;
            leads = subst (λ t. Leads (string_loads host host unit at) old new t) (unit_passed (host - (p.count + 1)) host unit next p.count bytes e) loaded;
          }

module _ (host unit at next : ℕ) (old now new : PortState) (p : IsSearched host unit at next old now) (some : 1 ≤ unit) where
  bounds : is_mapped host next unit ≡ true → (host_start ≤ next) × (next + unit ≤ host_start + host)
  bounds e = mapped_bounds host next unit some e

  -- the string ends at the next unit
  pub searched_ended : IsUnitSeen host unit next now new false → Makes (string_loads host host unit at) old new ((next - at) + unit)
  searched_ended (inl (e, same)) = subst (λ s. Makes (string_loads host host unit at) old s ((next - at) + unit)) (sym same) (searched_end host unit at next old now p some e)
  searched_ended (inr (e, (bytes, made, zero_unit))) = searched_found host unit at next old now p some e (bounds e).0 (bounds e).1 bytes new made zero_unit

  -- the string goes on
  pub searched_on : IsUnitSeen host unit next now new true → IsSearched host unit at (next + unit) old new
  searched_on (e, (bytes, made, more)) = searched_more host unit at next old now p some e (bounds e).0 (bounds e).1 bytes new made more

  -- the log is full in the next unit
  pub searched_cut : is_mapped host next unit ≡ true → StopsFull (loads Host next unit) now new → StopsFull (string_loads host host unit at) old new
  searched_cut e stopped = searched_full host unit at next old now p some e (bounds e).0 (bounds e).1 new stopped

module _ (unit at next : ℕ) (old now new : PortState) (p : IsSearched old.host unit at next old now) (some : 1 ≤ unit) where
  same_host : now.host ≡ old.host
  same_host = ap (λ (s : PortState). s.host) p.leads.grown

  -- what the test of the next unit comes to
  pub string_goes_on : (more : Bool) → IsUnitSeen now.host unit next now new more → more ≡ true → IsSearched old.host unit at (next + unit) old new
  string_goes_on more seen e =
      searched_on old.host unit at next old now new p some
      (subst (λ h. IsUnitSeen h unit next now new true) same_host (subst (λ b. IsUnitSeen now.host unit next now new b) e seen))

  pub string_ends : (more : Bool) → IsUnitSeen now.host unit next now new more → more ≡ false → Makes (string_loads old.host old.host unit at) old new ((next - at) + unit)
  string_ends more seen e =
      searched_ended old.host unit at next old now new p some
      (subst (λ h. IsUnitSeen h unit next now new false) same_host (subst (λ b. IsUnitSeen now.host unit next now new b) e seen))

  pub string_cut : is_mapped now.host next unit ≡ true → StopsFull (loads Host next unit) now new → StopsFull (string_loads old.host old.host unit at) old new
  string_cut e stopped = searched_cut old.host unit at next old now new p some (ap (λ h. is_mapped h next unit) (sym same_host) ∙ e) stopped

  -- the next unit is in host memory
  pub string_within : (more : Bool) → IsUnitSeen now.host unit next now new more → more ≡ true → (host_start ≤ next) × (next + unit ≤ host_start + old.host)
  string_within more seen e =
      let here : IsUnitSeen old.host unit next now new true = subst (λ h. IsUnitSeen h unit next now new true) same_host (subst (λ b. IsUnitSeen now.host unit next now new b) e seen) in
      mapped_bounds old.host next unit some here.0

take_whole : (xs : List ℕ) (n : ℕ) → length xs ≡ n → take n xs ≡ xs
take_whole [] zero e = refl
take_whole [] (suc n) e = refl
take_whole (x ∷ xs) zero e = absurd (omega (arith, e))
take_whole (x ∷ xs) (suc n) e = let h : length xs ≡ n = omega (arith, e) in ap (λ l. x ∷ l) (take_whole xs n h)

-- the length of an argument that was read from its lists
pub length_made : (here host place : ℕ) (q p : Param) (a arg : CallArg) (mid new : PortState) (n : ℕ) → here ≡ host → p ≡ q → arg ≡ a → Makes (string_length here place q.class a) mid new n → Makes (string_length host place p.class arg) mid new n
length_made here host place q p a arg mid new n h e k made =
    subst (λ x. Makes (string_length host place p.class x) mid new n) (sym k)
    (subst (λ (x : Param). Makes (string_length host place x.class a) mid new n) (sym e)
    (subst (λ x. Makes (string_length x place q.class a) mid new n) h made))

pub length_stopped : (here host place : ℕ) (q p : Param) (a arg : CallArg) (mid new : PortState) → here ≡ host → p ≡ q → arg ≡ a → StopsFull (string_length here place q.class a) mid new → StopsFull (string_length host place p.class arg) mid new
length_stopped here host place q p a arg mid new h e k stopped =
    subst (λ x. StopsFull (string_length host place p.class x) mid new) (sym k)
    (subst (λ (x : Param). StopsFull (string_length host place x.class a) mid new) (sym e)
    (subst (λ x. StopsFull (string_length x place q.class a) mid new) h stopped))

module _ (host place : ℕ) (params : List Param) (args : List CallArg) where
  abbrev all : Interaction (List ℕ)
  all = string_lengths host place (zip params args)

  -- the lengths of the arguments from this one on, behind those that were found
  abbrev pub lengths_left : ℕ → List ℕ → Interaction (List ℕ)
  lengths_left i found = and_then (string_lengths host place (zip (drop i params) (drop i args))) (λ rest. ret (take i found ++ rest))

  pub lengths_begin : (found : List ℕ) (now : PortState) → Leads (string_lengths host place (zip params args)) now now (lengths_left 0 found)
  lengths_begin found now = subst (λ t. Leads (string_lengths host place (zip params args)) now now t) (sym (and_then-ret (string_lengths host place (zip params args)))) (leads_nothing (string_lengths host place (zip params args)) now)

  module _ (i : ℕ) (found : List ℕ) (old mid : PortState) (so_far : Leads (string_lengths host place (zip params args)) old mid (lengths_left i found))
      (p : Param) (arg : CallArg) (p_at : slice_get params i ≡ Some p) (arg_at : slice_get args i ≡ Some arg) where
    abbrev rest : Interaction (List ℕ)
    rest = string_lengths host place (zip (drop (i + 1) params) (drop (i + 1) args))

    abbrev then_rest : ℕ → Interaction (List ℕ)
    then_rest n = map_value (λ lengths. n ∷ lengths) rest

    abbrev then_found : List ℕ → Interaction (List ℕ)
    then_found more = ret (take i found ++ more)

    left_is : lengths_left i found ≡ and_then (and_then (string_length host place p.class arg) then_rest) then_found
    left_is =
        ap (λ l. and_then (string_lengths host place (zip l (drop i args))) then_found) (drop_at params i p p_at)
        ∙ ap (λ l. and_then (string_lengths host place (zip (p ∷ drop (i + 1) params) l)) then_found) (drop_at args i arg arg_at)

    -- the log is full in this argument
    pub lengths_full : (new : PortState) → StopsFull (string_length host place p.class arg) mid new → StopsFull (string_lengths host place (zip params args)) old new
    lengths_full new stopped =
        full_on (string_lengths host place (zip params args)) (lengths_left i found) old mid new so_far
        (subst (λ t. StopsFull t mid new) (sym left_is)
        (full_first (and_then (string_length host place p.class arg) then_rest) then_found mid new (full_first (string_length host place p.class arg) then_rest mid new stopped)))

    -- one more argument
    pub lengths_more : (n : ℕ) (new : PortState) → i < length found → Makes (string_length host place p.class arg) mid new n
        → Leads (string_lengths host place (zip params args)) old new (lengths_left (i + 1) (slice_set found i n))
    lengths_more n new below made =
        let same : (more : List ℕ) → then_found (n ∷ more) ≡ ret (take (i + 1) (slice_set found i n) ++ more) = λ more.
        ap (λ l. ret l) (sym (append_assoc (take i found) (n ∷ []) more) ∙ ap (λ l. l ++ more) (sym (take_more_set found i n below))) in
        leads_on (string_lengths host place (zip params args)) (lengths_left i found) (lengths_left (i + 1) (slice_set found i n)) old mid new so_far
        (subst (λ t. Leads t mid new (lengths_left (i + 1) (slice_set found i n))) (sym left_is)
        (subst (λ t. Leads (and_then (and_then (string_length host place p.class arg) then_rest) then_found) mid new t)
        (and_then-assoc rest (λ lengths. ret (n ∷ lengths)) then_found ∙ ap (λ k. and_then rest k) (fun_ext same))
        (leads_first (and_then (string_length host place p.class arg) then_rest) (then_rest n) then_found mid new
        (leads_first (string_length host place p.class arg) (ret n) then_rest mid new made))))

  -- all arguments are done
  pub lengths_end : (i : ℕ) (found : List ℕ) (old new : PortState) → Leads (string_lengths host place (zip params args)) old new (lengths_left i found)
      → length params ≤ i → length args ≤ i → length found ≡ i → Makes (string_lengths host place (zip params args)) old new found
  lengths_end i found old new so_far h k e =
      subst (λ t. Leads (string_lengths host place (zip params args)) old new t)
      (ap (λ l. and_then (string_lengths host place (zip l (drop i args))) (λ rest. ret (take i found ++ rest))) (drop_past params i h)
      ∙ ap (λ l. ret l) (append-nil (take i found) ∙ take_whole found i e))
      so_far
