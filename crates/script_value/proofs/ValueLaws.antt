-- The value of a script without a fault.
use Rattle.std.proofs.Common.{arith, ◌≡◌, ◌≤◌, ◌<◌, ℕ, Bool, List, [], ◌∷◌, ◌++◌, length, refl, ap, sym, subst, ◌∙◌}
use Rattle.std.specs.Prelude.{Ok, flat_map}
use Rattle.std.specs.List.{AllByRecursion}
use Rattle.std.proofs.lemmas.List.Elements.{recursion_from_All}
use Rattle.sgx_base.specs.Stores.{max_file_size}
use Rattle.edl_interface.specs.declared.Interface.{Interface}
use Rattle.edl_interface.specs.Sound.{IsSound}
use Rattle.body_vm.specs.declared.Body.{Body}
use Rattle.word_port.specs.declared.Race.{Race}
use Rattle.call_script.specs.declared.HostAct.{HostAct}
use Rattle.call_script.specs.declared.Settings.{Settings}
use Rattle.call_script.specs.declared.Script.{Script}
use Rattle.call_script.specs.Settings as row
use Rattle.call_script.specs.Line.{Line}
use Rattle.call_script.specs.Block.{placed_lines}
use Rattle.call_script.specs.Meaning as meaning
use Rattle.call_script.specs.Meaning.{script_value, races_in}
use Rattle.call_script.specs.Reading.{script_of, unless_fault}
use Rattle.call_script.specs.Sound.{IsSoundScript, IsSoundRace, AreSoundSettings}
use Rattle.script_laws.proofs.FineLines.{script-taken, fine-lines}
use Rattle.script_laws.proofs.SoundScript.{script-sound}
use Rattle.script_blocks.specs.Blocks.{HomeLine, AreInPlace, block_lines}
use Rattle.script_blocks.specs.declared.acts.Source.{Source}
use Rattle.script_blocks.specs.declared.thread.Kind.TheVariants.{Thread, Racer}
use Rattle.script_blocks.specs.Acts.{Fits, IsGood, lines_of, block_acts, opened_acts}
use Rattle.script_blocks.specs.Slots.{handlers_of}
use Rattle.script_blocks.specs.Bodies.{bodies_of}
use Rattle.script_blocks.proofs.PlaceLaws.{all_in_place}
use Rattle.script_blocks.proofs.ActLaws.{acts_in-is}
use Rattle.script_blocks.proofs.ThreadLaws.{opened-is}
use Rattle.script_blocks.proofs.SlotLaws.{handlers-are}
use Rattle.script_blocks.proofs.BodyLaws.{bodies-are}
use Rattle.script_value.specs.Left.{formed_lines}
use Rattle.script_value.specs.Initial.{words_of, IsSmallRace, AreInFront}
use Rattle.script_value.specs.Value.{IsFaultless}
use Rattle.script_value.proofs.SettingLaws.{settings_first}
use Rattle.script_value.proofs.RaceLaws.{AreSmall}
use Rattle.script_value.proofs.FitLaws.{few-block-lines, all-fitting, fits-in-blocks}

module _ (i : Interface) (racing : Bool) (bytes : List ℕ) (faultless : IsFaultless i racing bytes) where
  value-is : script_of i racing bytes ≡ Ok (script_value i racing (placed_lines bytes))
  unfolding script_of
  value-is = ap (λ o. unless_fault o (script_value i racing (placed_lines bytes))) faultless

  pub is_value : (s : Script) → s ≡ script_value i racing (placed_lines bytes) → script_of i racing bytes ≡ Ok s
  is_value s e = value-is ∙ ap Ok (sym e)

  pub value_sound : IsSoundScript i racing (script_value i racing (placed_lines bytes))
  value_sound = script-sound i racing bytes (script_value i racing (placed_lines bytes)) value-is

  pub is_sound : (s : Script) → s ≡ script_value i racing (placed_lines bytes) → IsSoundScript i racing s
  is_sound s e = subst (IsSoundScript i racing) (sym e) value_sound

  pub front_settings : AreInFront (formed_lines bytes)
  unfolding formed_lines
  front_settings =
      let taken = script-taken i racing bytes (script_value i racing (placed_lines bytes)) value-is in
      settings_first i racing (placed_lines bytes) (fine-lines i racing bytes taken.lines)

  pub sound_settings : (j : Interface) → AreSoundSettings racing (meaning.settings j racing (placed_lines bytes))
  sound_settings j = value_sound.settings

  pub few_slots : (s : Settings) → s ≡ meaning.settings i racing (placed_lines bytes) → s.slots ≤ 8
  few_slots s e = let h = value_sound.settings.slots.upto in subst (λ (x : Settings). x.slots ≤ 8) (sym e) h

  -- ---- races

  small-each : (size : ℕ) → size ≤ 65536 → (races : List Race) → AllByRecursion (IsSoundRace size) races
      → AllByRecursion IsSmallRace races
  small-each size h [] all = tt
  small-each size h (r ∷ races) all =
      let aim : r.index < size = all.0.aim in ((all.0.upto, omega (arith, aim, h)), small-each size h races all.1)

  first-part : {A : Type 0} (P : A → Type 0) (xs ys : List A) → AllByRecursion P (xs ++ ys) → AllByRecursion P xs
      × AllByRecursion P ys
  first-part P [] ys h = (tt, h)
  first-part P (x ∷ xs) ys h = let more = first-part P xs ys h.1 in ((h.0, more.0), more.1)

  small-parts : (ls : List Line) → AllByRecursion IsSmallRace (flat_map races_in ls) → AllByRecursion AreSmall ls
  small-parts [] h = tt
  small-parts (line ∷ ls) h =
      let parts = first-part IsSmallRace (races_in line) (flat_map races_in ls) h in (parts.0, small-parts ls parts.1)

  pub small_races : AllByRecursion AreSmall (formed_lines bytes)
  unfolding formed_lines
  small_races =
      let sound = value_sound in
      let host : meaning.setting_at_end i racing (placed_lines bytes) row.host ≤ 65536 =
      sound.settings.host.upto in
      small-parts (formed_lines bytes)
      (small-each _ host _ (recursion_from_All _ _ sound.races.each))

  -- ---- blocks

  pub is_good : length bytes ≤ max_file_size → IsSound i → (s : Source) → s.interface.now ≡ i
      → lines_of s ≡ block_lines (placed_lines bytes) → IsGood s
  is_good short sound s e f =
      let taken = script-taken i racing bytes (script_value i racing (placed_lines bytes)) value-is in
      let fine = fine-lines i racing bytes taken.lines in
      let fits = fits-in-blocks (placed_lines bytes) (all-fitting i racing bytes short value_sound.settings fine) in
      record {
        sound = subst IsSound (sym e) sound;
        fits = subst (AllByRecursion Fits) (sym f) fits;
        placed = subst (λ ls. AreInPlace ls ls) (sym f) (all_in_place bytes);
        few = subst (λ ls. length ls ≤ max_file_size) (sym f) (few-block-lines bytes short);
      }

  -- ---- the whole

  module _ (lines : List HomeLine) (are : lines ≡ block_lines (placed_lines bytes)) where
    pub whole_value : (settings : Settings) (words : List ℕ) (races : List Race) (bodies : List Body)
        (handlers threads racers : List (List HostAct)) → settings ≡ meaning.settings i racing (placed_lines bytes)
        → words ≡ words_of racing settings (formed_lines bytes) → races ≡ flat_map races_in (formed_lines bytes)
        → bodies ≡ bodies_of i lines → handlers ≡ handlers_of i lines
        → threads ≡ block_acts i lines 0 ∷ opened_acts i lines Thread lines → racers ≡ opened_acts i lines Racer lines
        → ◌≡◌ {A = Script} (record {
          settings = settings;
          words = words;
          races = races;
          bodies = bodies;
          handlers = handlers;
          threads = threads;
          racers = racers;
        }) (script_value i racing (placed_lines bytes))
    unfolding formed_lines words_of
    whole_value settings words races bodies handlers threads racers a b c d e f g =
        let script = placed_lines bytes in
        let the_bodies = d ∙ ap (bodies_of i) are ∙ bodies-are i racing script in
        let the_handlers = e ∙ ap (handlers_of i) are ∙ handlers-are i racing script in
        let the_threads = f
        ∙ ap (λ ls. block_acts i ls 0 ∷ opened_acts i ls Thread ls) are
        ∙ ap (λ acts. acts ∷ opened_acts i (block_lines script) Thread (block_lines script))
        (sym (acts_in-is i racing script 0))
        ∙ ap (λ acts. meaning.acts_in i racing script 0 ∷ acts) (sym (opened-is i racing script Thread)) in
        let the_racers = g ∙ ap (λ ls. opened_acts i ls Racer ls) are ∙ sym (opened-is i racing script Racer) in
        rw (b, a, c, the_bodies, the_handlers, the_threads, the_racers) refl
