use Rattle.std.proofs.Common.{◌++◌, ◌∙◌, ap, length, drop}
use Rattle.std.proofs.lemmas.Bool.Decides.{Decides-eqb}
use Rattle.std.proofs.lemmas.Slice.Eq.{starts_is}
use Rattle.op_table.specs.Tables.{text_of}
use Rattle.op_table.proofs.table.OpRow.begins.Goals as goal

pub returns : goal.returns
returns c =
    let says = starts_is Decides-eqb c.args.bytes.now c.text.result.now c.starts_with.result c.starts_with.ensures.value in
    let text = text_of c.args.self.now in (
      λ yes. (
        drop (length c.text.result.now) c.args.bytes.now,
        says.0 yes
            ∙ ap (λ x. x ++ drop (length c.text.result.now) c.args.bytes.now) c.text.ensures,
      ),
      λ front. says.1 front.0 (rw c.text.ensures front.1),
    )
