use Rattle.std.proofs.Common.{ap, sym, ◌∙◌}
use Rattle.shared_words.specs.Seats.{TableState, SeatState}
use Rattle.shared_words.proofs.Names.{same_table}
use Rattle.shared_words.proofs.Seating.{joins_as}
use Rattle.shared_words.proofs.seats.join.Goals as goal

pub join_seat-requires : goal.join_seat-requires
join_seat-requires c =
    let t = c.table.inside.table.shared in
    let k = c.keeper.inside in
    let e = c.ended.inside in (
      same_table k.seat.table_id t.table_id (ap (λ (s : SeatState). s.port.name) c.keeper.view_is ∙ c.requires.table ∙ sym (ap (λ (s : TableState). s.name) c.table.view_is)),
      same_table e.seat.table_id t.table_id (ap (λ (s : SeatState). s.port.name) c.ended.view_is ∙ c.requires.ended ∙ sym (ap (λ (s : TableState). s.name) c.table.view_is)),
      c.ended.invariant.bare,
      c.table.invariant.0,
      joins_as t.key.words.items t.key.host k.seat.id k.seat.me.0 e.seat.id e.seat.me.0 (ap (λ (s : SeatState). s.number) c.keeper.view_is ∙ c.requires.keeper) c.ended.invariant.live,
    )
