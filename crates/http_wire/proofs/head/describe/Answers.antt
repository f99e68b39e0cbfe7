use Rattle.std.proofs.Common.{◌≡◌, take, refl, sym, ap, ◌∙◌, arith}
use Rattle.std.proofs.lemmas.List.{take_all}
use Rattle.http_wire.specs.Fields.{fields_at}
use Rattle.http_wire.specs.Framing.{fields_of}
use Rattle.http_wire.proofs.head.describe.Goals as goal

-- the spans show the head's parts, so what is computed from them is what the head says
pub returns-clause-parts : goal.returns-clause-parts
returns-clause-parts c = λ head at.
    let all : take c.args.spans.now.headers c.args.headers.now ≡ c.args.headers.now = take_all _ _ (omega (arith, c.requires.all)) in
    let fields : fields_at c.args.bytes.now c.args.headers.now ≡ fields_of head = ap (fields_at c.args.bytes.now) (sym all) ∙ at.fields in
    let method : c.of-method.result.now ≡ head.method = c.of-method.ensures ∙ at.method in
    let target : c.of-target.result.now ≡ head.target = c.of-target.ensures ∙ at.path in
    let minor : c.args.spans.now.version ≡ head.minor = at.version in
    let path = c.requires.within.path in
    record {
      method = rw (c.method_kind.ensures, method) refl;
      target = at.path;
      inside = omega (arith, path);
      media = rw (c.is_media-is_media.ensures, method, target) refl;
      framing = rw (c.judged-framing.ensures, c.is_media-is_media.ensures, c.is_coded.ensures, c.declared.ensures, method, target, fields, minor)
          refl;
      interim = rw (
        c.interim_by.ensures,
        c.judged-framing.ensures,
        c.has_value-expects.ensures,
        c.is_media-is_media.ensures,
        c.is_coded.ensures,
        c.declared.ensures,
        method,
        target,
        fields,
        minor,
      ) refl;
      closes = rw (c.closes_by.ensures, c.has_value-says_close.ensures, fields, minor) refl;
    }
