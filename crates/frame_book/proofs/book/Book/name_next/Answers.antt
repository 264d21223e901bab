use Rattle.std.proofs.Common.{◌≡◌, ◌∷◌, [], ◌++◌, ap, sym, subst, ◌∙◌, false, true, rules, w64, to_z, of_z}
use Rattle.std.proofs.lemmas.Bool.{true≢false}
use Rattle.std.proofs.lemmas.Int.{to_z-of_z}
use Rattle.pipe_frame.specs.Replies.{accessed}
use Rattle.pipe_frame.specs.StageEndCases.{EndsIteration, NamesNextStage}
use Rattle.pipe_frame.specs.TokenFields.{fields_of}
use Rattle.pipe_frame.specs.declared.results.Named.TheVariants as results
use Rattle.pipe_model.specs.Pipelines.Behaviour.{Performs, Staged}
use Rattle.pipe_model.specs.Runs.StageEnds.{stage_end_actions}
use Rattle.frame_rows.specs.NamedStages.{stage_end}
use Rattle.frame_book.specs.BookStates.{BookState, left_of, state_of}
use Rattle.frame_book.specs.CallEffects.{after_name_next}
use Rattle.frame_book.proofs.Actions.LegalActions.{performs_split}
use Rattle.frame_book.proofs.Conditions.Courses.{stage_actions, names_next, last_actions, ends_iteration, named_over, named_stage}
use Rattle.frame_book.proofs.book.Book.name_next.Goals as goal

-- an instance that was stopped has made its accesses
pub hold-requires-clause-performs : goal.hold-requires-clause-performs
hold-requires-clause-performs g c = (performs_split (left_of c.args.self.now c.args.token.iteration) (accessed c.args.trace)
    (stage_end_actions c.args.end) c.requires.performs).0

pub course_after-requires : goal.course_after-requires
course_after-requires g c = λ e.
    let a = subst (λ v. (state_of v).stopped ≡ true) (sym c.self.view_is) (c.requires.stopped e) in
    absurd (true≢false (sym a ∙ (sym c.self.invariant.0.stopped ∙ c.if-self.false)))

-- it names a stage
pub name-requires-clause-performs : goal.name-requires-clause-performs
name-requires-clause-performs g c =
    let n : to_z w64 (of_z w64 c.in-Stage.number) ≡ c.in-Stage.number = to_z-of_z w64 c.in-Stage.number (search rules) in
    subst (λ xs. Performs (left_of c.args.self.now c.args.token.iteration) (accessed c.args.trace ++ xs))
    (ap stage_end_actions c.in-Stage.ensures.0 ∙ (stage_actions c.in-Stage.kind c.in-Stage.number c.in-Stage.ensures.1
    ∙ ap (λ z. Staged c.in-Stage.kind z ∷ []) (sym n))) c.requires.performs

pub name-requires-clause-payload : goal.name-requires-clause-payload
name-requires-clause-payload g c = record {
  belongs = c.requires.belongs;
  ready = c.requires.ready (subst NamesNextStage (sym c.in-Stage.ensures.0) (names_next c.in-Stage.kind c.in-Stage.number));
}

pub returns-in-Stage-clause-returned : goal.returns-in-Stage-clause-returned
returns-in-Stage-clause-returned g c = (
  subst (λ (v : BookState). (state_of v).stopped ≡ false) c.self.view_is (sym c.self.invariant.0.stopped ∙ c.if-self.false),
  subst NamesNextStage (sym c.in-Stage.ensures.0) (names_next c.in-Stage.kind c.in-Stage.number),
)

pub returns-in-Stage-clause-book : goal.returns-in-Stage-clause-book
returns-in-Stage-clause-book g c =
    let n : to_z w64 (of_z w64 c.in-Stage.number) ≡ c.in-Stage.number = to_z-of_z w64 c.in-Stage.number (search rules) in
    c.name.ensures ∙ (named_stage c.args.self.now (fields_of c.args.token) c.args.trace c.in-Stage.kind
    (to_z w64 (of_z w64 c.in-Stage.number)) c.in-Stage.ensures.1
    ∙ ap (λ e. after_name_next c.args.self.now (fields_of c.args.token) e c.args.trace results.Waits)
    (ap (stage_end c.in-Stage.kind) n ∙ sym c.in-Stage.ensures.0))

-- it ends its iteration
pub finish-requires-clause-performs : goal.finish-requires-clause-performs
finish-requires-clause-performs g c =
    subst (λ xs. Performs (left_of c.args.self.now c.args.token.iteration) (accessed c.args.trace ++ xs))
    (ap stage_end_actions c.in-Over.ensures ∙ last_actions c.in-Over.last) c.requires.performs

pub returns-in-Over-clause-returned : goal.returns-in-Over-clause-returned
returns-in-Over-clause-returned g c = (
  subst (λ (v : BookState). (state_of v).stopped ≡ false) c.self.view_is (sym c.self.invariant.0.stopped ∙ c.if-self.false),
  subst EndsIteration (sym c.in-Over.ensures) (ends_iteration c.in-Over.last),
)

pub returns-in-Over-clause-book : goal.returns-in-Over-clause-book
returns-in-Over-clause-book g c = c.finish.ensures ∙ (named_over c.args.self.now (fields_of c.args.token) c.args.trace c.in-Over.last
    ∙ ap (λ e. after_name_next c.args.self.now (fields_of c.args.token) e c.args.trace results.Ended) (sym c.in-Over.ensures))
