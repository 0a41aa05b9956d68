use Rattle.std.proofs.Common.{◌∙◌, ap, map, refl}
use Rattle.script_blocks.specs.Blocks.{home_line}
use Rattle.script_value.proofs.ValueLaws.{front_settings, sound_settings, few_slots, small_races, is_good, whole_value, is_value, is_sound}
use Rattle.script_value.proofs.value.value_of.Goals as goal

pub settings-requires-clause-first : goal.settings-requires-clause-first
settings-requires-clause-first c =
    front_settings c.args.interface.now c.args.racing c.args.text.now c.requires.faultless

pub settings-requires-clause-sound : goal.settings-requires-clause-sound
settings-requires-clause-sound c =
    sound_settings c.args.interface.now c.args.racing c.args.text.now c.requires.faultless

pub words-requires-clause-slots : goal.words-requires-clause-slots
words-requires-clause-slots c =
    few_slots c.args.interface.now c.args.racing c.args.text.now c.requires.faultless c.in_ok-settings.settings
    (c.in_ok-settings.ensures c.args.interface.now)

pub races-requires-clause-small : goal.races-requires-clause-small
races-requires-clause-small c =
    small_races c.args.interface.now c.args.racing c.args.text.now c.requires.faultless

pub bodies-requires : goal.bodies-requires
bodies-requires c =
    is_good c.args.interface.now c.args.racing c.args.text.now c.requires.faultless c.requires.short
    c.requires.within_limits _ refl (ap (map home_line) c.as_slice.ensures ∙ c.in_ok-lines.ensures)

pub handlers-requires : goal.handlers-requires
handlers-requires c =
    is_good c.args.interface.now c.args.racing c.args.text.now c.requires.faultless c.requires.short
    c.requires.within_limits _ refl (ap (map home_line) c.as_slice.ensures ∙ c.in_ok-lines.ensures)

pub threads-requires : goal.threads-requires
threads-requires c =
    is_good c.args.interface.now c.args.racing c.args.text.now c.requires.faultless c.requires.short
    c.requires.within_limits _ refl (ap (map home_line) c.as_slice.ensures ∙ c.in_ok-lines.ensures)

pub racers-requires : goal.racers-requires
racers-requires c =
    is_good c.args.interface.now c.args.racing c.args.text.now c.requires.faultless c.requires.short
    c.requires.within_limits _ refl (ap (map home_line) c.as_slice.ensures ∙ c.in_ok-lines.ensures)

pub returns-clause-value : goal.returns-clause-value
returns-clause-value c =
    is_value c.args.interface.now c.args.racing c.args.text.now c.requires.faultless _
    (whole_value c.args.interface.now c.args.racing c.args.text.now c.requires.faultless _
    (ap (map home_line) c.as_slice.ensures ∙ c.in_ok-lines.ensures) c.in_ok-settings.settings c.in_ok-words.words
    c.in_ok-races.races c.in_ok-bodies.bodies c.in_ok-handlers.handlers c.in_ok-threads.threads c.in_ok-racers.racers
    (c.in_ok-settings.ensures c.args.interface.now) c.in_ok-words.ensures c.in_ok-races.ensures c.in_ok-bodies.ensures
    c.in_ok-handlers.ensures c.in_ok-threads.ensures c.in_ok-racers.ensures)

pub returns-clause-sound : goal.returns-clause-sound
returns-clause-sound c =
    is_sound c.args.interface.now c.args.racing c.args.text.now c.requires.faultless _
    (whole_value c.args.interface.now c.args.racing c.args.text.now c.requires.faultless _
    (ap (map home_line) c.as_slice.ensures ∙ c.in_ok-lines.ensures) c.in_ok-settings.settings c.in_ok-words.words
    c.in_ok-races.races c.in_ok-bodies.bodies c.in_ok-handlers.handlers c.in_ok-threads.threads c.in_ok-racers.racers
    (c.in_ok-settings.ensures c.args.interface.now) c.in_ok-words.ensures c.in_ok-races.ensures c.in_ok-bodies.ensures
    c.in_ok-handlers.ensures c.in_ok-threads.ensures c.in_ok-racers.ensures)
