-- Facts about the token that a result holds, if it holds one.
use Rattle.pipe_frame.specs.declared.token.FrameToken.{FrameToken}
use Rattle.pipe_frame.specs.declared.results.Begun.{Begun}
use Rattle.pipe_frame.specs.declared.results.Begun.TheVariants as begun
use Rattle.pipe_frame.specs.declared.results.Next.{Next}
use Rattle.pipe_frame.specs.declared.results.Next.TheVariants as next
use Rattle.pipe_frame.specs.declared.results.Rescue.{Rescue}
use Rattle.pipe_frame.specs.declared.results.Rescue.TheVariants as rescue

abbrev pub IfStarted : {M : Type 0} → Begun M → (FrameToken M → Type 0) → Type 0
IfStarted (begun.Started t) P = P t
IfStarted begun.Throttled P = Unit {0}
IfStarted begun.Closed P = Unit {0}
IfStarted begun.NotYet P = Unit {0}
IfStarted begun.Stopped P = Unit {0}

abbrev pub IfGo : {M : Type 0} → Next M → (FrameToken M → Type 0) → Type 0
IfGo (next.Go t) P = P t
IfGo next.Suspended P = Unit {0}
IfGo next.Ended P = Unit {0}
IfGo next.Stopped P = Unit {0}

abbrev pub IfToken : {M : Type 0} → Rescue M → (FrameToken M → Type 0) → Type 0
IfToken (rescue.Token t) P = P t
IfToken rescue.MayBegin P = Unit {0}
IfToken rescue.Nothing P = Unit {0}
IfToken rescue.Finished P = Unit {0}
IfToken rescue.Stopped P = Unit {0}

-- a fact about the result that there is nothing to do
abbrev pub IfNothing : {M : Type 0} → Rescue M → Type 0 → Type 0
IfNothing (rescue.Token t) P = Unit {0}
IfNothing rescue.MayBegin P = Unit {0}
IfNothing rescue.Nothing P = P
IfNothing rescue.Finished P = Unit {0}
IfNothing rescue.Stopped P = Unit {0}
