-- What of its lines the value of a script hangs on.
use Rattle.std.proofs.Common.{ℕ, ◌≡◌, ◌*◌, Bool, List, [], ◌∷◌, ◌++◌, sym, ◌∙◌}
use Rattle.std.specs.Prelude.{fold, flat_map, if◌then◌else◌}
use Rattle.edl_interface.specs.declared.Interface.{Interface}
use Rattle.call_script.specs.declared.HostAct.{HostAct}
use Rattle.call_script.specs.declared.Settings.{Settings}
use Rattle.call_script.specs.Settings as row
use Rattle.call_script.specs.Block.{PlacedLine}
use Rattle.call_script.specs.Standing.{lines_of, setting_in, is_thread}
use Rattle.call_script.specs.Meaning as meaning
use Rattle.call_script.specs.Meaning.{zeros, host_behind, cells_behind, races_in, script_value}
use Rattle.script_blocks.specs.Blocks.{block_lines}
use Rattle.script_blocks.specs.declared.thread.Kind.TheVariants.{Thread, Racer}
use Rattle.script_blocks.specs.Acts.{block_acts, opened_acts}
use Rattle.script_blocks.specs.Slots.{handlers_of}
use Rattle.script_blocks.specs.Bodies.{bodies_of}
use Rattle.script_blocks.proofs.ActLaws.{acts_in-is}
use Rattle.script_blocks.proofs.ThreadLaws.{opened-is}
use Rattle.script_blocks.proofs.SlotLaws.{handlers-are}
use Rattle.script_blocks.proofs.BodyLaws.{bodies-are}

module _ (i : Interface) (racing : Bool) where
  -- the settings, where the number of each is given
  settings_by : (row.Setting → ℕ) → Settings
  settings_by number = record {
    host = number row.host;
    stack = number row.stack;
    arena = number row.arena;
    cells = number row.cells;
    retries = number row.retries;
    tworkers = if racing then number row.tworkers else 0;
    uworkers = if racing then number row.uworkers else 0;
    slots = number row.slots;
  }

  pub settings-alike : (xs ys : List PlacedLine)
      → ((which : row.Setting) → setting_in (lines_of xs) which ≡ setting_in (lines_of ys) which)
      → meaning.settings i racing xs ≡ meaning.settings i racing ys
  unfolding settings_by
  settings-alike xs ys same = λ j. settings_by (λ which. same which j)

  -- two scripts are the same where their settings, memory, races and blocks are
  module _ (xs ys : List PlacedLine)
      (settings : (which : row.Setting) → setting_in (lines_of xs) which ≡ setting_in (lines_of ys) which)
      (host : (before : List ℕ) → fold host_behind before (lines_of xs) ≡ fold host_behind before (lines_of ys))
      (cells : (before : List ℕ) → fold cells_behind before (lines_of xs) ≡ fold cells_behind before (lines_of ys))
      (races : flat_map races_in (lines_of xs) ≡ flat_map races_in (lines_of ys))
      (bodies : bodies_of i (block_lines xs) ≡ bodies_of i (block_lines ys))
      (handlers : handlers_of i (block_lines xs) ≡ handlers_of i (block_lines ys))
      (first : block_acts i (block_lines xs) 0 ≡ block_acts i (block_lines ys) 0)
      (threads : opened_acts i (block_lines xs) Thread (block_lines xs)
      ≡ opened_acts i (block_lines ys) Thread (block_lines ys))
      (racers : opened_acts i (block_lines xs) Racer (block_lines xs)
      ≡ opened_acts i (block_lines ys) Racer (block_lines ys)) where
    the_settings : meaning.settings i racing xs ≡ meaning.settings i racing ys
    the_settings = settings-alike xs ys settings

    the_words : meaning.initial_words i racing xs ≡ meaning.initial_words i racing ys
    the_words = λ j.
        host (zeros (the_settings j).host) j ++ cells (zeros (the_settings j).cells) j
        ++ zeros (if racing then 2 * (the_settings j).slots else 0) ++ 0 ∷ []

    the_threads : ◌≡◌ {A = List (List HostAct)}
        (meaning.acts_in i racing xs 0 ∷ meaning.acts_of_blocks i racing xs is_thread)
        (meaning.acts_in i racing ys 0 ∷ meaning.acts_of_blocks i racing ys is_thread)
    the_threads =
        let acts = acts_in-is i racing xs 0 ∙ first ∙ sym (acts_in-is i racing ys 0) in
        let more = opened-is i racing xs Thread ∙ threads ∙ sym (opened-is i racing ys Thread) in
        λ j. acts j ∷ more j

    pub value-alike : script_value i racing xs ≡ script_value i racing ys
    value-alike =
        let the_bodies = sym (bodies-are i racing xs) ∙ bodies ∙ bodies-are i racing ys in
        let the_handlers = sym (handlers-are i racing xs) ∙ handlers ∙ handlers-are i racing ys in
        let the_racers = opened-is i racing xs Racer ∙ racers ∙ sym (opened-is i racing ys Racer) in
        λ j. record {
          settings = the_settings j;
          words = the_words j;
          races = races j;
          bodies = the_bodies j;
          handlers = the_handlers j;
          threads = the_threads j;
          racers = the_racers j;
        }
