use Rattle.std.proofs.Common.{ap, sym, ◌∙◌}
use Rattle.shared_words.specs.Seats.{TableState, SeatState}
use Rattle.shared_words.proofs.Names.{same_table}
use Rattle.shared_words.proofs.Seating.{splits_as}
use Rattle.shared_words.proofs.seats.split.Goals as goal

pub split_seat-seat-requires : goal.split_seat-seat-requires
split_seat-seat-requires c =
    let t = c.table.inside.table.shared in
    let k = c.keeper.inside in (
      same_table k.seat.table_id t.table_id (ap (λ (s : SeatState). s.port.name) c.keeper.view_is ∙ c.requires.table ∙ sym (ap (λ (s : TableState). s.name) c.table.view_is)),
      c.table.invariant.0,
      splits_as t.key.words.items t.key.host k.seat.id k.seat.me.0 (ap (λ (s : SeatState). s.number) c.keeper.view_is ∙ c.requires.keeper) c.keeper.invariant.live,
    )
