-- `rest_checks`: a zone below Z is the one that 9 names; with none, no rewrite passes (`plain_pass`); else 6 by the greatest serial, and 8 where some drive has no free zone. Assumes nothing.
use Rattle.spec.specs.Drives.{view_of}
use Rattle.spec.specs.Segments.{segments}
use Rattle.recover_check.specs.Mends.{no_faults}
use Rattle.call_restart.specs.Order.{segments-fail, zone_none, gone_plain, here_plain, plain_pass, restart_serial_fails, restart_zones_fail, restart_zones_suffice}
use mathlib.Core.Path.{sym, ◌∙◌}
use native.Mathlib.Omega.{arith}
use Rattle.call_restart.proofs.rest_checks.Goals as goal

pub returns-then-e-p : goal.returns-then-e-p
returns-then-e-p c =
    let a = c.args in
    λ im ps kp sr tk x. segments-fail a.p (view_of a.p a.offline.now im ps) a.gone a.e x c.if-e-p.true

pub returns-then-gone-ne0 : goal.returns-then-gone-ne0
returns-then-gone-ne0 c =
    let a = c.args in
    let if1 = c.if-e-p in
    λ im ps kp sr tk x.
    let v = view_of a.p a.offline.now im ps in
    let z = zone_none a.p v a.gone a.e x (omega (arith, if1.false)) in
    plain_pass a.p v a.gone (segments a.p v a.gone) (no_faults a.p v a.gone a.e x z) (gone_plain a.p v a.gone a.e x z c.if-gone-ne0.true)

pub returns-then-not-is_ragged : goal.returns-then-not-is_ragged
returns-then-not-is_ragged c =
    let a = c.args in
    let if1 = c.if-e-p in
    let if2 = c.if-gone-ne0 in
    let rag = c.is_ragged in
    λ im ps kp sr tk x.
    let v = view_of a.p a.offline.now im ps in
    let z = zone_none a.p v a.gone a.e x (omega (arith, if1.false)) in
    plain_pass a.p v a.gone (segments a.p v a.gone) (no_faults a.p v a.gone a.e x z)
    (here_plain a.p v a.gone a.e x z if2.false ∙ sym rag.ensures ∙ c.if-not-is_ragged.true)

pub returns-then-most : goal.returns-then-most
returns-then-most c =
    let a = c.args in
    let if1 = c.if-e-p in
    let if2 = c.if-gone-ne0 in
    let if3 = c.if-not-is_ragged in
    let rag = c.is_ragged in
    let most = c.greatest_serial-most in
    λ im ps kp sr tk x.
    let v = view_of a.p a.offline.now im ps in
    let z = zone_none a.p v a.gone a.e x (omega (arith, if1.false)) in
    restart_serial_fails a.p v a.gone (segments a.p v a.gone) (no_faults a.p v a.gone a.e x z)
    (here_plain a.p v a.gone a.e x z if2.false ∙ sym rag.ensures ∙ if3.false)
    (sym (most.ensures v a.gone x.here kp sr) ∙ c.if-most.true)

pub returns-then-none_free : goal.returns-then-none_free
returns-then-none_free c =
    let a = c.args in
    let if1 = c.if-e-p in
    let if2 = c.if-gone-ne0 in
    let if3 = c.if-not-is_ragged in
    let if4 = c.if-most in
    let rag = c.is_ragged in
    let most = c.greatest_serial-most in
    λ im ps kp sr tk x.
    let v = view_of a.p a.offline.now im ps in
    let z = zone_none a.p v a.gone a.e x (omega (arith, if1.false)) in
    restart_zones_fail a.p v a.gone (segments a.p v a.gone) (no_faults a.p v a.gone a.e x z)
    (here_plain a.p v a.gone a.e x z if2.false ∙ sym rag.ensures ∙ if3.false)
    (λ q. if4.false (most.ensures v a.gone x.here kp sr ∙ q)) (sym (c.none_free.ensures im ps a.gone tk) ∙ c.if-none_free.true)

pub returns : goal.returns
returns c =
    let a = c.args in
    let if1 = c.if-e-p in
    let if2 = c.if-gone-ne0 in
    let if3 = c.if-not-is_ragged in
    let if4 = c.if-most in
    let rag = c.is_ragged in
    let most = c.greatest_serial-most in
    λ im ps kp sr tk x.
    let v = view_of a.p a.offline.now im ps in
    let z = zone_none a.p v a.gone a.e x (omega (arith, if1.false)) in
    restart_zones_suffice a.p v a.gone (segments a.p v a.gone) (no_faults a.p v a.gone a.e x z)
    (here_plain a.p v a.gone a.e x z if2.false ∙ sym rag.ensures ∙ if3.false)
    (λ q. if4.false (most.ensures v a.gone x.here kp sr ∙ q)) (sym (c.none_free.ensures im ps a.gone tk) ∙ c.if-none_free.false)
