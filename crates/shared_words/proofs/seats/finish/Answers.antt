use Rattle.std.proofs.Common.{ℕ, ◌≡◌, List, ◌∷◌, length, All, ap, sym, ◌∙◌, subst}
use Rattle.std.specs.Mem.Slots.{slots_items}
use Rattle.word_port.specs.declared.Step.{Step}
use Rattle.word_port.specs.Plain.{IsByteStep}
use Rattle.shared_words.specs.Seats.{TableState, SeatState}
use Rattle.shared_words.specs.Histories.{HaveOneHistory}
use Rattle.shared_words.proofs.Names.{same_table}
use Rattle.shared_words.proofs.Seating.{AreAll, finishes_as}
use Rattle.shared_words.proofs.Shuffles.{shuffle_all}
use Rattle.shared_words.proofs.seats.finish.Goals as goal

pub returns-clause-history : goal.returns-clause-history
returns-clause-history c =
    let t = c.table.inside.table.shared in
    let k = c.keeper.inside in
    let closed = c.close_with-closed.result in
    let all : AreAll t.key.words.items k.seat.me.0.host (k.seat.me.0.own ∷ k.seat.me.0.ended) =
    finishes_as t.key.words.items t.key.host k.seat.id k.seat.me.0 (slots_items closed.words) (slots_items closed.slots)
    (ap (λ (s : SeatState). s.number) c.keeper.view_is ∙ c.requires.keeper) (ap (λ (s : SeatState). s.due) c.keeper.view_is ∙ c.requires.joined) c.keeper.invariant.live
    (c.close_with-closed.ensures.values.2) in
    let one : HaveOneHistory t.key.words.items (k.seat.me.0.own ∷ k.seat.me.0.ended) = record { history = all.history; legal = all.legal; shuffled = all.shuffled } in
    let whole : HaveOneHistory t.key.words.items (k.log.items ∷ k.seat.me.0.ended) =
    subst (λ (l : List Step). HaveOneHistory t.key.words.items (l ∷ k.seat.me.0.ended)) (sym c.keeper.invariant.logged) one in
    subst (λ (w : List ℕ). HaveOneHistory w (k.log.items ∷ c.args.keeper.ended)) (ap (λ (s : TableState). s.initial) c.table.view_is)
    (subst (λ (l : List (List Step)). HaveOneHistory t.key.words.items (k.log.items ∷ l)) (ap (λ (s : SeatState). s.ended) c.keeper.view_is) whole)

pub returns-clause-bytes : goal.returns-clause-bytes
returns-clause-bytes c =
    let t = c.table.inside.table.shared in
    let k = c.keeper.inside in
    let closed = c.close_with-closed.result in
    let all : AreAll t.key.words.items k.seat.me.0.host (k.seat.me.0.own ∷ k.seat.me.0.ended) =
    finishes_as t.key.words.items t.key.host k.seat.id k.seat.me.0 (slots_items closed.words) (slots_items closed.slots)
    (ap (λ (s : SeatState). s.number) c.keeper.view_is ∙ c.requires.keeper) (ap (λ (s : SeatState). s.due) c.keeper.view_is ∙ c.requires.joined) c.keeper.invariant.live
    (c.close_with-closed.ensures.values.2) in
    let host_is : k.seat.me.0.host ≡ c.args.keeper.port.host = sym c.keeper.invariant.hosted ∙ ap (λ (s : SeatState). s.port.host) c.keeper.view_is in
    let same = same_table k.seat.table_id t.table_id (ap (λ (s : SeatState). s.port.name) c.keeper.view_is ∙ c.requires.table ∙ sym (ap (λ (s : TableState). s.name) c.table.view_is)) in
    let words_is : length t.key.words.items ≡ c.args.keeper.port.words =
    sym c.table.invariant.2 ∙ sym (ap (λ z. z.words) same) ∙ sym c.keeper.invariant.counted ∙ ap (λ (s : SeatState). s.port.words) c.keeper.view_is in
    let each : All (All (IsByteStep (length t.key.words.items) k.seat.me.0.host)) (k.seat.me.0.own ∷ k.seat.me.0.ended) =
    shuffle_all (IsByteStep (length t.key.words.items) k.seat.me.0.host) all.history (k.seat.me.0.own ∷ k.seat.me.0.ended) all.shuffled all.steps in
    let logs_are : k.seat.me.0.own ∷ k.seat.me.0.ended ≡ k.log.items ∷ c.args.keeper.ended =
    ap (λ (l : List Step). l ∷ k.seat.me.0.ended) (sym c.keeper.invariant.logged) ∙ ap (λ (l : List (List Step)). k.log.items ∷ l) (ap (λ (s : SeatState). s.ended) c.keeper.view_is) in
    subst (λ (l : List (List Step)). All (All (IsByteStep c.args.keeper.port.words c.args.keeper.port.host)) l) logs_are
    (subst (λ (n : ℕ). All (All (IsByteStep n c.args.keeper.port.host)) (k.seat.me.0.own ∷ k.seat.me.0.ended)) words_is
    (subst (λ (n : ℕ). All (All (IsByteStep (length t.key.words.items) n)) (k.seat.me.0.own ∷ k.seat.me.0.ended)) host_is each))
