use Rattle.std.proofs.Common.{◌<◌, ◌+◌, ◌%◌, ◌^◌, ◌==◌, refl, subst, arith}
use prog.Atomic.{either}
use Rattle.word_port.specs.Requests.{load_of, swap_of, add_of, cas_of}
use Rattle.shared_words.specs.Accesses.{IsByteAccess}
use Rattle.shared_words.proofs.Steps.{allows_step, either_if}
use Rattle.shared_words.proofs.accesses.make_step_as.Goals as goal

pub load-requires : goal.load-requires
load-requires g c =
    let t = c.args.table.now in (
      c.requires.table,
      c.requires.word,
      allows_step t.key.words.items t.key.host t.table_id.slots c.args.seat.now.id c.args.seat.now.me (load_of g.T.OfSide.side c.args.index) (λ n. n) c.requires.live (λ n. refl)
          (subst (λ n. c.args.index < n) c.requires.count c.requires.word) (λ h. (tt, omega arith)),
    )

pub swap-requires : goal.swap-requires
swap-requires g c =
    let t = c.args.table.now in
    let value = c.in-Swap.value in (
      c.requires.table,
      c.requires.word,
      allows_step t.key.words.items t.key.host t.table_id.slots c.args.seat.now.id c.args.seat.now.me (swap_of g.T.OfSide.side c.args.index value) (λ n. value) c.requires.live (λ n. refl)
          (subst (λ n. c.args.index < n) c.requires.count c.requires.word) (λ h. (tt, subst IsByteAccess c.in-Swap.is (c.requires.byte h))),
    )

pub fetch_add-requires : goal.fetch_add-requires
fetch_add-requires g c =
    let t = c.args.table.now in
    let by = c.in-Add.by in (
      c.requires.table,
      c.requires.word,
      allows_step t.key.words.items t.key.host t.table_id.slots c.args.seat.now.id c.args.seat.now.me (add_of g.T.OfSide.side c.args.index by) (λ n. (n + by) % 2 ^ 64) c.requires.live (λ n. refl)
          (subst (λ n. c.args.index < n) c.requires.count c.requires.word) (λ h. absurd (subst IsByteAccess c.in-Add.is (c.requires.byte h))),
    )

pub compare_exchange-requires : goal.compare_exchange-requires
compare_exchange-requires g c =
    let t = c.args.table.now in
    let old = c.in-Cas.old in
    let new = c.in-Cas.new in (
      c.requires.table,
      c.requires.word,
      allows_step t.key.words.items t.key.host t.table_id.slots c.args.seat.now.id c.args.seat.now.me (cas_of g.T.OfSide.side c.args.index old new) (λ n. either (n == old) new n) c.requires.live (λ n. either_if (n == old) new n)
          (subst (λ n. c.args.index < n) c.requires.count c.requires.word) (λ h. absurd (subst IsByteAccess c.in-Cas.is (c.requires.byte h))),
    )
