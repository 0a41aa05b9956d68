use Rattle.std.proofs.Common.{arith, ◌+◌, ◌-◌, ◌^◌, ◌<◌, length, ◌∙◌, ap}
use Rattle.std.specs.Prelude.{min, cond}
use Rattle.script_lines.specs.Lines.{line_of}
use Rattle.script_faults.proofs.StepLaws.{all-the-same, given-behind, left-behind}
use Rattle.script_faults.proofs.body.Body.pass.Goals as goal

pub returns : goal.returns
returns c = λ i name before behind h.
    let few : length c.args.self.now.temporaries < 2 ^ 32 = omega (arith, c.args.self.now.few) in
    record {
      params = h.params;
      temporaries = all-the-same before (line_of c.args.line.now) behind c.args.self.now.temporaries h.temporaries;
      given =
          given-behind before (line_of c.args.line.now) behind c.args.self.now.temporaries c.args.self.now.given _ few
          h.temporaries h.given
          (c.more-self.ensures ∙ ap (λ t. min (c.args.self.now.given + cond t 1 0) (2 ^ 64 - 1)) c.is_temporary.ensures);
      room = c.behind-self.ensures before h.room;
      left =
          left-behind (line_of c.args.line.now) behind c.args.self.now.left _ h.left
          (c.less-self.ensures ∙ ap (λ t. c.args.self.now.left - cond t 1 0) c.is_action.ensures);
    }
