use Rattle.std.proofs.Common.{◌<◌, ap, rules, subst, sym, w64}
use Rattle.std.proofs.lemmas.Int.{to_z-of_z}
use mir.Val.{SFits}
use Rattle.schedule_play.specs.OneAccess.{AccessState, access_list}
use Rattle.schedule_play.proofs.one_access.OneAccessMemory.read.Goals as goal

pub pass-requires : goal.pass-requires
pass-requires g c =
    let fits : SFits w64 c.read-value.result = search rules in
    rw (to_z-of_z w64 c.read-value.result fits, ← c.self.view_is) (record {
      next = record {
        there = subst (λ (m : AccessState). c.args.cell.0 < m.cells.shard.cells) (sym c.self.view_is) c.requires;
        reply = λ store before state read. c.read-value.ensures.value store before state;
      };
    })

pub returns-then-pass-clause-some : goal.returns-then-pass-clause-some
returns-then-pass-clause-some g c = c.if-pass.ensures.yes

pub returns-else-pass-clause-none : goal.returns-else-pass-clause-none
returns-else-pass-clause-none g c = ap access_list c.if-pass.ensures.no
